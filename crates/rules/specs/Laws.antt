-- Lemmas by which the rules show the facts that they owe, and what these rest on. No contract needs them to be read.
pub mod ChosenLots
pub mod Searches
pub mod FixedParts
pub mod OverloadSound
pub mod TimeTables
pub mod NotFirstSound
pub mod HouseSound
