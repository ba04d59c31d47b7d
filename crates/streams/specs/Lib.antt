-- What the contracts of `streams` cite.
pub mod Kept
pub mod Shown
pub mod ShownBy
