pub mod Independent
pub mod IndependentLeaves
pub mod IndependentMembers
pub mod IndependentParts
pub mod IndependentReferences
pub mod IndependentScopes
pub mod IndependentSets
