pub mod Arrays
pub mod Written
pub mod Filled
pub mod Release
pub mod Noted
pub mod Going
pub mod Turn
