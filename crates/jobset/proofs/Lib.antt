pub mod Locks
pub mod Rows
pub mod Laid
