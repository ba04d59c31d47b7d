-- The theorem, lookups in both runs, and lists of steps computed.
pub mod Switching
pub mod Lookups
pub mod Witness
