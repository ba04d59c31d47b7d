-- The struck-out run, shown.
pub mod Relation
pub mod RowUnwinding
pub mod LineUnwinding
pub mod PolicyUnwinding
pub mod Unwinding
pub mod Isolation
pub mod Lookups
pub mod Witness
