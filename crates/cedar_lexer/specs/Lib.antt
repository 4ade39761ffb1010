pub mod Cut
pub mod LexerState
pub mod Names
pub mod Scan
pub mod Spelling
pub mod Token
pub mod Varied
pub mod Words
