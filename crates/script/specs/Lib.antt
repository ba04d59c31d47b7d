-- Scripts: where a line ends, and the numbers of a line.
pub mod Script
