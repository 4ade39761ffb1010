pub mod Tidy
pub mod TidyPolicies
pub mod TidyTrees
pub mod TidyWords
