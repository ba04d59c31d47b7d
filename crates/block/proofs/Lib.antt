-- The laws that the functions' proofs cite.
pub mod PartLaws
pub mod SetLaws
pub mod DomainLaws
pub mod HeadLaws
pub mod WorkLaws
pub mod StepLaws
pub mod LayoutLaws
pub mod TurnLaws
pub mod FreshLaws
pub mod ReplyLaws
pub mod RoundLaws
pub mod RefusedLaws
pub mod WorkedCases
