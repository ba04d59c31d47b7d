-- Document 01, "Geometry and tables": the limits, the tables' lengths, and the set and tag of an address; and how bytes name a geometry.
pub mod Geometry
pub mod Address
pub mod Inside
pub mod Named
pub mod Statements
