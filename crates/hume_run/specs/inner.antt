pub mod ScriptEnds
pub mod Texts
pub mod UnionReads
pub mod UnionEnds
pub mod Opening
pub mod LogEnds
pub mod Places
