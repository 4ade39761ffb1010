pub mod Formatted
pub mod PrintLaw
pub mod SameWords
