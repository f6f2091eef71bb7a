pub mod Tables
pub mod Applications
pub mod Turning
pub mod Raising
pub mod Slack
pub mod Settling
pub mod Chains
