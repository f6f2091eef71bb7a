-- What only contracts of private code speak of. No promise needs it to be read.
pub mod Points
pub mod Counted
pub mod Walks
