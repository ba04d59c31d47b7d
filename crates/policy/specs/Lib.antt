-- A domain's policy: its two maps, how they are read, and what a policy argument says.
pub mod Policy
pub mod Statements
