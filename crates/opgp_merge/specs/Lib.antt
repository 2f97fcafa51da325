pub mod Chosen
pub mod Merged
pub mod Picked
pub mod Slots
