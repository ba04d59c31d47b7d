-- The laws that the crates above cite, and cases by numbers.
pub mod ScriptLaws
pub mod WorkedCases
