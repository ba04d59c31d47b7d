-- What the program's functions go by.
pub mod Rows
