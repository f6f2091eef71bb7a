pub mod Lines
pub mod Shown
pub mod Syntax
pub mod Piles
pub mod Laws
pub mod Private
