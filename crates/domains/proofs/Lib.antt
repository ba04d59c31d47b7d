-- The laws that the crates above cite.
pub mod CountLaws
pub mod DomainLaws
pub mod PolicyLaws
