pub mod Again
pub mod Asks
pub mod Fields
pub mod Questions
pub mod Sorts
pub mod Steps
pub mod Takes
pub mod TakesWhole
