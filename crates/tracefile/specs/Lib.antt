-- The trace file: document 01, "Trace file and listing".
pub mod File
pub mod Statements
