-- Lines in and lines out, shown.
pub mod TallyLaws
pub mod Balance
pub mod Witness
