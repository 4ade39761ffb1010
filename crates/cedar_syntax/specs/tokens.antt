pub mod Signs
pub mod Tokens
