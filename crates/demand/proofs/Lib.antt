-- The statement, derived from the theorem `isolation`.
pub mod FreeLaws
pub mod OrderLaws
pub mod LimitLaws
pub mod RunLaws
pub mod SeenLaws
pub mod Witness
pub mod Demand
