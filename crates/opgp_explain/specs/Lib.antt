pub mod Area
pub mod Field
pub mod Fields
pub mod Key
pub mod Lines
pub mod Meaning
pub mod Sections
pub mod Telling
