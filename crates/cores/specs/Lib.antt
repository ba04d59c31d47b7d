-- A step where core records are lent, and a run of such steps: document 02, job 5.
pub mod Step
pub mod Run
pub mod Calls
pub mod Inside
pub mod Statements
