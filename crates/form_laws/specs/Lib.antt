pub mod Alike
pub mod Unions
pub mod UnionCalls
