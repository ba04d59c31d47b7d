-- What every state that a run reaches keeps, shown.
pub mod SeparateLaws
pub mod LineBalance
pub mod PolicyBalance
pub mod SpentLaws
pub mod Reached
