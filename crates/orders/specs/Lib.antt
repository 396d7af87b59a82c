pub mod Orders
pub mod Nodes
pub mod Leaves
pub mod Laws
