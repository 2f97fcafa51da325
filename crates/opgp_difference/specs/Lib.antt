pub mod Difference
pub mod Entries
pub mod Telling
pub mod Tree
