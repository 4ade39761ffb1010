pub mod Formatted
pub mod LaidOut
pub mod OldMeaning
pub mod StandsWhole
pub use Rattle.cedar_policy_conversion.specs.StrictPolicy
pub use Rattle.cedar_policy_conversion.specs.StrictScope
pub mod VariedTexts
