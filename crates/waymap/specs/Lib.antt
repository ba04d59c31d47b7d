-- What a way map is, which of its ways is taken, and how many ways there are.
pub mod Bits
pub mod Encoder
pub mod Ways
pub mod Statements
