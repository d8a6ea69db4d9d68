mod RewrittenStarts
mod RewrittenNodes
mod RewrittenInputs
mod RewrittenRounds
mod RewrittenRuns
mod RewrittenOwed
mod RewrittenCalls
mod RewrittenEnds
pub mod Found
pub mod MovedSpelling
pub mod SameTexts
pub mod Standing
pub mod OwnParts
pub mod OwnInputs
pub mod OwnRounds
pub mod PortBytes
pub mod OwnBytes
pub mod MadeSupersteps
pub mod UnionBytes
pub mod OwnPeaks
pub mod FromTexts
pub mod FirstProgram
pub mod UnionCalls
