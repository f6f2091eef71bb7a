pub mod Tree
pub mod Answer
pub mod Private
