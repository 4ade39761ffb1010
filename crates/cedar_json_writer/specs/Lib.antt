pub mod Forms
pub mod FunctionKeys
pub mod machines
pub mod PolicyForms
pub mod Refusals
pub mod Texts
