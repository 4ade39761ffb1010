pub mod GoesOn
pub mod PolicyParts
pub mod PrintLaws
pub mod StandsInText
pub mod TextRules
pub mod WholeParts
