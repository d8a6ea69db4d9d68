mod Walks
pub mod Wires
pub mod Filled
mod ValuesRead
mod Indexes
mod MappedSoFar
mod CellsSeen
mod Rounding
mod FewItems
mod AtRest
mod Halving
mod OneCell
mod LogCells
mod QueueCells
mod FilledCells
pub mod NodeFilled
mod MadeCells
mod FirstEngine
