pub mod LentOutputs
