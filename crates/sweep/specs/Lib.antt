-- A change of policy on one set: document 01, "Steps".
pub mod Clean
pub mod Sweep
pub mod Drops
pub mod Number
pub mod Statements
