mod Lasts
mod PatternForms
pub mod Forms
mod RaiseForms
mod PlainForms
mod NeedForms
mod MarkLaws
mod MarkForms
