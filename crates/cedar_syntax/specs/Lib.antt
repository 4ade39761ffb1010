pub mod printing
pub mod strings
pub mod messages
pub mod faults
pub mod tokens
pub mod places
pub mod trees
pub mod Stacks
