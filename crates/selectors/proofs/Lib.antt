-- The laws that the crates above cite.
pub mod SelectLaws
pub mod MeantLaws
pub mod PlaceLaws
