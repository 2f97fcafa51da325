mod AllClaims
mod Blocks
pub mod Calendar
pub mod DateTexts
mod Fed
mod Fronts
mod Gathered
mod Heads
mod Heard
mod Lines
mod Moved
mod Placements
mod PlacesStand
mod Reordered
mod StateTexts
mod Verdicts
