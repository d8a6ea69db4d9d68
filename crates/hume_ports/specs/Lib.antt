pub mod Port
pub mod Memory
pub mod MemoryPort
pub mod Ports
pub mod Delivery
pub mod Files
