pub mod Samples
pub mod Says
pub mod Agree
pub mod Tight
