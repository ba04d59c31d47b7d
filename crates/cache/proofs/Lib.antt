-- The laws that the functions' proofs cite.
pub mod PlaceLaws
pub mod RowLaws
pub mod OutcomeLaws
