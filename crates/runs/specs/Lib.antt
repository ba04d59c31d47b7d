-- Tables and runs of numbers in bytes.
pub mod Runs
