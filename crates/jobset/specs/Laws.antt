pub mod Clipped
pub mod Accepted
