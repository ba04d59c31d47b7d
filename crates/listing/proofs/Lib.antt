-- The listing, tried.
pub mod WorkedCases
pub mod Before
