pub mod Acts
pub mod Done
pub mod Outlined
