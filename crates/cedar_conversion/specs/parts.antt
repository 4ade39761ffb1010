pub mod Entities
pub mod HasSide
pub mod Leaves
pub mod Literals
pub mod Members
pub mod Names
pub mod Strings
