pub mod Inserts
pub mod Rows
