pub mod Beginning
pub mod Ending
pub mod Hint
pub mod HintText
pub mod Progress
pub mod Saying
pub mod SpoolFile
pub mod Words
