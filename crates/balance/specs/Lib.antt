-- Lines in and lines out: document 02, job 6.
pub mod Tally
pub mod Balance
