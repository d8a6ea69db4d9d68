pub mod FormLaws
pub mod Given
pub mod Lengths
pub mod ListLaws
pub mod Order
pub mod PatternLaws
pub mod WholeLaws
pub mod results_lemmas
