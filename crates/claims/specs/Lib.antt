-- The theorems in other words, point by point.
pub mod Points
pub mod Unseen
pub mod Switched
pub mod Locked
pub mod Balanced
pub mod Edges
