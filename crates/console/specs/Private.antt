-- What only contracts of private code speak of. No promise needs it to be read.
pub mod Parts
pub mod Front
pub mod Faults
