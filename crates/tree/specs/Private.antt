-- What only contracts of private code speak of. No promise needs it to be read.
pub mod Stack
pub mod Held
