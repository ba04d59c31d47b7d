-- The laws that the crates above cite.
pub mod FieldLaws
pub mod NumberLaws
pub mod DigitLaws
pub mod CutLaws
