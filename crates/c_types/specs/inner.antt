pub mod SameTypes
