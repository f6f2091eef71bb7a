pub mod Limits
pub mod Refusals
pub mod Tables
pub mod Schedules
pub mod Checks
pub mod Texts
pub mod Private
