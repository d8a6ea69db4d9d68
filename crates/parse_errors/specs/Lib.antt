pub mod WrongTokens
pub mod inner
