-- Locked lines, shown.
pub mod WordFits
pub mod FitLaws
pub mod RowLaws
pub mod OnceLaws
pub mod OtherLaws
pub mod StayLaws
pub mod HoldLaws
pub mod NearLaws
pub mod SteerLaws
pub mod Locking
pub mod Witness
