pub mod FirstLaws
pub mod MistypedLaws
pub mod VerdictLaws
pub mod functions_lemmas
pub mod results_lemmas
pub mod boxes_lemmas
