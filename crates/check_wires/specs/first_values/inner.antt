pub mod Unfit
