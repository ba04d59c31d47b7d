-- The laws that the crates above cite.
pub mod RefusalLaws
pub mod PolicyLaws
