pub mod StepsAt
pub mod FillsInLists
pub mod LinesInTurn
