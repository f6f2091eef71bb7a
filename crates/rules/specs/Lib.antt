pub mod Chosen
pub mod Overload
pub mod TimeTable
pub mod NotFirst
pub mod House
pub mod Laws
pub mod Private
