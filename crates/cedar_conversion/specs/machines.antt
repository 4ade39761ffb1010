pub mod Applied
pub mod AsExpression
pub mod Nested
pub mod PlainTexts
pub mod SideChild
pub mod Taking
pub mod Views
