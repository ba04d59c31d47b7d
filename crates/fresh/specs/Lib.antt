-- The calls that make a fresh cache.
pub mod Calls
