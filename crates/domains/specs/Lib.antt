-- The sixteen domains: their policies and counts, and what a step leaves of them.
pub mod Domains
pub mod Calls
