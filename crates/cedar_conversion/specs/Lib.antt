pub mod parts
pub mod outcome
pub mod strict
pub mod machines
