-- A step of a run: the code by which traces tell it, what its kind asks for, and what it answers.
pub mod Command
pub mod Kind
pub mod Refusal
pub mod Answer
pub mod Statements
