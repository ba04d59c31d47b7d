-- True LRU: document 02, job 1.
pub mod Lru
pub mod Calls
pub mod Inside
pub mod Statements
