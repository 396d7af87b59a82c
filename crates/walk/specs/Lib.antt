pub mod State
pub mod Choice
pub mod Switches
pub mod Nodes
pub mod Counts
pub mod Descent
pub mod Tree
pub mod Laws
