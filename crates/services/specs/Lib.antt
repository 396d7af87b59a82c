pub mod Refusals
pub mod Open
pub mod Times
pub mod Replay
pub mod Told
pub mod Judge
pub mod Tree
