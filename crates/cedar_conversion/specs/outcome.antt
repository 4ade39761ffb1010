pub mod Causes
pub mod Conversion
pub mod Detail
pub mod Held
pub mod LonePart
pub mod Outcome
pub mod Places
pub mod Seen
