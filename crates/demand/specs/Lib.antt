-- Document 01, "The struck-out run", written out flat.
pub mod Free
pub mod Order
pub mod Demand
pub mod Statements
