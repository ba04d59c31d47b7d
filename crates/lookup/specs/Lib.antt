-- The hit lookup among the tags of a set.
pub mod Lookup
pub mod Statements
