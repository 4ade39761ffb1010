pub mod CedarExtensions
pub mod Extensions
pub mod Strict
pub mod StrictCalls
pub mod StrictWords
pub mod Table
