-- The laws that the crates above cite.
pub mod KeepLaws
pub mod CoreLaws
pub mod TakeLaws
pub mod Witness
