pub mod EquationLaws
pub mod FunctionLaws
pub mod SignatureLaws
