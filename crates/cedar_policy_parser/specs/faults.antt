pub mod Alone
pub mod Blocks
pub mod Due
pub mod DueKinds
pub mod Refused
pub mod Sites
pub mod Standing
