-- The laws that the crates above cite.
pub mod OrderLaws
pub mod PlaceLaws
pub mod BeforeLaws
pub mod LruLaws
pub mod LoopLaws
pub mod PassLaws
pub mod FallingLaws
pub mod LiftLaws
pub mod CallLaws
pub mod WorkedCases
