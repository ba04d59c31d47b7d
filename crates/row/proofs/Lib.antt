-- The laws that the crates above cite.
pub mod RuleLaws
pub mod WorkLaws
pub mod LineLaws
pub mod LinesLaws
pub mod LookLaws
pub mod ToldLaws
