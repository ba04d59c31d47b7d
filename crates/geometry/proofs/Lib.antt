-- The laws that the crates above cite.
pub mod GeometryLaws
pub mod AddressLaws
pub mod WorkedCases
