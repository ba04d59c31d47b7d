-- The theorems in other words, from each of which the theorem follows again.
pub mod Points
pub mod Unseen
pub mod Switched
pub mod Locked
pub mod Balanced
pub mod Edges
