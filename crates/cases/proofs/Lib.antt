-- The worked cases, shown.
pub mod Computing
pub mod Worked
