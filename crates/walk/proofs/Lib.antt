pub mod Keeping
pub mod Hanging
pub mod Growing
pub mod Turn
pub mod Leaving
pub mod Cutting
