-- What only contracts of private code speak of. No promise needs it to be read.
pub mod Words
pub mod Said
pub mod Desks
pub mod Pages
pub mod Steps
