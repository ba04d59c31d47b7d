-- Core records, and what a step means where they are lent: document 02, job 5.
pub mod Selectors
pub mod Calls
pub mod Statements
