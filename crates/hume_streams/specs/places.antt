pub mod FillsOfPorts
pub mod LineWrites
