-- The listing of a trace file: document 01, "Trace file and listing".
pub mod Listing
pub mod Before
pub mod Statements
