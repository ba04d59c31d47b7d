-- The laws that the crates above cite.
pub mod ReadLaws
pub mod ArgumentLaws
