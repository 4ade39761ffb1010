pub mod Expected
pub mod FirstFault
pub mod Leftmost
pub mod Mended
pub mod MendedFaults
