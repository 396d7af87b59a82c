pub mod Fold
pub mod Walk
pub mod Verdict
pub mod Whole
pub mod Sound
pub mod Parts
pub mod Samples
