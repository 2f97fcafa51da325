pub mod Bytes
pub mod Digits
pub mod Mpis
pub mod Numbers
pub mod PacketLens
pub mod SubLens
