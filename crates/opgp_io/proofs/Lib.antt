pub mod Added
pub mod Extended
pub mod Loops
pub mod Places
pub mod Rows
pub mod Texts
