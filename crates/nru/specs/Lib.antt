-- NRU: document 01, "The tree and the bits".
pub mod Nru
pub mod Calls
pub mod Statements
