-- Lemmas by which rules show the facts that they owe, and what these rest on. They are proved, so no promise
-- needs them to be read.
pub mod Tables
pub mod Outcomes
pub mod Schedules
pub mod Sequence
pub mod Turns
pub mod Mirror
pub mod Raises
