pub mod Lines
pub mod PrintLines
pub mod Sheets
pub mod Private
