pub mod Same
pub mod Noting
pub mod Walking
pub mod Members
pub mod Told
pub mod Closed
pub mod Applied
