-- The laws that the crates above cite.
pub mod RuleLaws
pub mod AdmitLaws
pub mod CallLaws
pub mod ReplyLaws
