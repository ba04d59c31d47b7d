-- The replacement rules, without any cache above them: document 01, "The tree and the bits".
pub mod Rule
pub mod Isolates
pub mod Laws
pub mod Refusal
pub mod Calls
pub mod Answer
pub mod Change
pub mod Inside
pub mod Statements
