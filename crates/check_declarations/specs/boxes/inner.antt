pub mod Boxes
pub mod Handlers
pub mod Ports
pub mod Rules
