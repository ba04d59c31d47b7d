-- The laws that the crates above cite.
pub mod CommandLaws
pub mod ListLaws
pub mod KindLaws
pub mod AnswerLaws
pub mod RefusalLaws
