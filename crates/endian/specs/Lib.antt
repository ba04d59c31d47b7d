-- Little-endian numbers in bytes.
pub mod Bytes
