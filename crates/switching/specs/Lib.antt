-- The struck-out run where core records are lent: document 02, job 5.
pub mod StruckOut
pub mod Lookups
