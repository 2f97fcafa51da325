pub mod Cleartext
pub mod Faults
pub mod Hashes
pub mod Line
pub mod Machine
pub mod View
