-- The laws that the crates above cite.
pub mod TreeLaws
pub mod EvenLaws
pub mod LevelLaws
pub mod PathLaws
pub mod WalkLaws
pub mod TreeWordLaws
pub mod CallLaws
pub mod HalfLaws
pub mod WorkedCases
