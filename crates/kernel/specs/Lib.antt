pub mod Rules
pub mod Jobs
pub mod Log
pub mod Held
pub mod Code
pub mod Laws
