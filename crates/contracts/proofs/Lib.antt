-- The contracts, held.
pub mod Exactly
pub mod Rules
pub mod Sets
pub mod Steps
pub mod Lending
pub mod Files
pub mod Laws
pub mod StateLaws
