pub mod printing
pub mod faults
pub mod grammar
pub mod machines
