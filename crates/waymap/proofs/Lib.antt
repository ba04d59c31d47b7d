-- The laws that the crates above cite.
pub mod Booleans
pub mod BitLaws
pub mod WordLaws
pub mod WayLaws
pub mod MapLaws
pub mod EncoderLaws
pub mod LowestLaws
pub mod MemberLaws
pub mod NumberLaws
