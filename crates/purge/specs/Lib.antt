-- The struck-out list: document 01, "The struck-out run".
pub mod Purge
pub mod Calls
pub mod Inside
pub mod Statements
