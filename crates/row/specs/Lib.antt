-- The rules on one set: document 01, "Steps".
pub mod Row
pub mod View
pub mod Calls
pub mod Inside
pub mod Statements
