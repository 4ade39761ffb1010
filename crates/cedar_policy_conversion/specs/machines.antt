pub mod Filled
pub mod PolicyViews
pub mod LonePaths
