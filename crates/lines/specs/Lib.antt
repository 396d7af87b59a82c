pub mod Text
pub mod Sample
pub mod Digits
pub mod Lengths
pub mod Put
pub mod Writer
