pub mod Answers
pub mod Faults
pub mod Made
pub mod Places
pub mod Told
