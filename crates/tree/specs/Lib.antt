-- Tree-PLRU: document 01, "The tree and the bits".
pub mod Tree
pub mod Calls
pub mod Inside
pub mod Statements
