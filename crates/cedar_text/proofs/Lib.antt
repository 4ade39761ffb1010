pub mod Counting
pub mod KindTexts
pub mod Spanned
pub mod SpannedPolicies
pub mod Spanning
pub mod machines
