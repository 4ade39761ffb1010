pub mod Begun
pub mod Brackets
pub mod Closing
pub mod Operators
pub mod Relations
pub mod Steps
pub mod Tokens
pub mod Whole
