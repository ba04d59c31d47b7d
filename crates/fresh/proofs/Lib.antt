-- The laws that the crates above cite.
pub mod TableLaws
pub mod WorkedCases
