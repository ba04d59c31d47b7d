-- The laws that the crates above cite.
pub mod TagLaws
pub mod SweepLaws
pub mod CleanLaws
pub mod DropLaws
pub mod NumberLaws
