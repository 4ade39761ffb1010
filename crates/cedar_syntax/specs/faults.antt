pub mod Joined
pub mod Lending
pub mod NonEmpty
pub mod ParseErrors
pub mod RawFault
pub mod ToASTError
