pub mod Answering
pub mod Copying
pub mod FirstPiece
pub mod FormLevels
pub mod InsideForms
pub mod InsideWeights
pub mod Joining
pub mod Layouts
pub mod Levels
pub mod Newest
pub mod Printing
pub mod Texts
pub mod Unfolding
pub mod Weights
mod ConjoinedLemmas
mod KeptLemmas
mod Positions
mod TableLemmas
