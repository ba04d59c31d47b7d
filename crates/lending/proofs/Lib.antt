-- Lemmas for a walk by hand that lends a part of a local array of structs. `lend` needs none of them any more.
pub mod Loan
