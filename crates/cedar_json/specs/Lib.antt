pub mod AsRead
pub mod Members
pub mod PolicyReadings
pub mod Readings
pub mod Legible
