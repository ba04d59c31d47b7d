-- What it is for a contract to be held from above.
pub mod Contract
