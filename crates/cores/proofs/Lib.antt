-- The laws that the crates above cite.
pub mod Locals
pub mod TurnLaws
pub mod StepLaws
pub mod OtherLaws
pub mod RunLaws
pub mod Computing
pub mod WorkedCases
pub mod ReplyLaws
