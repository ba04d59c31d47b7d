-- The struck-out run: document 01, "The struck-out run".
pub mod StruckOut
pub mod Lookups
