pub mod expressions
pub mod machines
