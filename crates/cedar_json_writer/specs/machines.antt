pub mod Outputs
pub mod Pending
pub mod Shapes
