-- Document 01, "When a step is turned down", and what it goes by: the limits, the tables' lengths, the policies and the counts.
pub mod Refusal
pub mod Calls
