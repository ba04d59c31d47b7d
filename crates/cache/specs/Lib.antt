-- The call of a step.
pub mod Calls
pub mod Inside
pub mod Statements
