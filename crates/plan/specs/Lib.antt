pub mod Tables
pub mod Calls
pub mod Book
pub mod History
pub mod Promise
