pub mod Conjoined
pub mod Faults
pub mod Help
pub mod Kept
pub mod Messages
