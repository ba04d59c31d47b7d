-- The block of bytes that a testbench lends: document 02, job 7.
pub mod Layout
pub mod Block
pub mod Inside
pub mod Statements
