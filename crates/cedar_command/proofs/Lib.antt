mod Endings
mod Verdicts
mod Spelled
mod Naming
mod MeantSets
mod WrittenAnswers
