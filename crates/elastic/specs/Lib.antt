pub mod Profile
pub mod Overflow
pub mod Marked
pub mod Added
pub mod Private
