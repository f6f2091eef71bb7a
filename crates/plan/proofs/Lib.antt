pub mod Appends
pub mod Windows
pub mod Tables
pub mod Searches
pub mod Tallies
pub mod Histories
pub mod Once
pub mod Some
