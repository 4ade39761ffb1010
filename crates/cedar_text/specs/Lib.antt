pub mod GoesOn
pub mod Nesting
pub mod StandsInText
pub mod TextRules
pub mod TreeDepth
pub mod machines
