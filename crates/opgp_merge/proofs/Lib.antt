mod Asking
mod Firsts
mod Twice
mod Within
pub mod Adding
pub mod Components
pub mod Indexing
pub mod Kept
pub mod Picks
pub mod Placing
pub mod Staying
pub mod Uniting
