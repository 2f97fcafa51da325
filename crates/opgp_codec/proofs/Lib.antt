mod Again
mod Ends
pub mod Kept
mod Labels
pub mod Loops
mod OneAnswer
mod OneTop
pub mod Pulling
mod Put
mod SomeAnswer
mod Spooling
mod Ways
pub mod SoundSoFar
mod Blocking
pub mod Concluding
pub mod Stepping
mod ItemsPassing
pub mod Parting
mod TextLines
pub mod Readers
mod Coming
pub mod Packeted
pub mod Keyringed
mod Cleartexts
mod Strict
mod OneMessage
