-- Locked lines: document 02, job 4.
pub mod Once
pub mod Locked
pub mod Locking
