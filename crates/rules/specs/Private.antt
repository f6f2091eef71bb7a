-- What only contracts of private code speak of. No promise needs it to be read.
pub mod Growing
pub mod Tests
pub mod Changes
pub mod Loads
pub mod Candidates
pub mod Ends
