-- The laws that the crates above cite.
pub mod FileLaws
pub mod PlaceLaws
