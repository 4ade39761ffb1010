pub mod Classes
pub mod Machine
pub mod Judged
pub mod Marks
pub mod Mending
pub mod Recovery
pub mod SingleTokens
pub mod Skipping
