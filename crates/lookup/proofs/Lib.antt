-- The laws that the crates above cite.
pub mod LookupLaws
pub mod VisitLaws
