pub mod Found
pub mod Outcomes
pub mod Visits
pub mod Cases
