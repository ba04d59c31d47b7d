-- The states that a run from a fresh cache reaches.
pub mod Reached
pub mod Balance
pub mod Inside
pub mod Statements
