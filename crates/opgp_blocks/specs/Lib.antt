pub mod Blocks
pub mod Line
pub mod View
