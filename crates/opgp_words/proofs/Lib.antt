mod Adding
mod Commands
pub mod Simple
