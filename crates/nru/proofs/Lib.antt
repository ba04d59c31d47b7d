-- The laws that the crates above cite.
pub mod NruLaws
pub mod NruWordLaws
