pub mod Limits
pub mod Records
pub mod Table
pub mod Refusal
pub mod Part
pub mod Sound
pub mod Steps
