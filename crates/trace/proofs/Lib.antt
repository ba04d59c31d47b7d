-- The listing of a trace file.
pub mod TextLaws
pub mod LineLaws
pub mod RunLaws
pub mod ListLaws
