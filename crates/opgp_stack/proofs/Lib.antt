mod AllRows
mod Bounds
mod CanonicalText
mod CleartextParts
mod Differences
mod DocumentLines
mod GoingOn
mod KeyLines
pub mod KeyTexts
mod Looking
mod MadeOnce
mod PartTexts
mod ReadFor
mod RingMade
mod Runs
mod ShownTexts
mod SoundLines
pub mod Times
mod States
mod KeyFiles
mod Named
mod NumberTexts
mod OtherValues
pub mod Zips
mod Wanted
