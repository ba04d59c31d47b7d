-- The laws that the crates above cite.
pub mod SetLaws
pub mod TotalLaws
pub mod StateLaws
pub mod DidLaws
pub mod RunLaws
pub mod WordLaws
pub mod AnswerLaws
pub mod DropLaws
pub mod SweepLaws
pub mod JudgeLaws
pub mod DeedLaws
pub mod StepLaws
pub mod Computing
