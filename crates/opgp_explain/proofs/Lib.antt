pub mod Areas
pub mod Keys
pub mod Told
pub mod Whole
