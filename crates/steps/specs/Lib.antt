-- The cache as the rules have it: document 01, "Geometry and tables" and "Steps".
pub mod Tables
pub mod Step
pub mod Run
pub mod Fresh
pub mod Inside
pub mod Deed
pub mod Statements
