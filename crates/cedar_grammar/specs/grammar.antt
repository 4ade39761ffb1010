pub mod Grammar
pub mod LooseExpressions
pub mod LoosePolicies
pub mod LooseWords
pub mod Place
pub mod Sentences
pub mod WrittenTokens
