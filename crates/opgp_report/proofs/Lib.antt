pub mod Asking
pub mod Fingerprints
mod FirstLaws
mod NamedKeys
mod Numbered
mod Reported
mod Rewriting
mod Scanning
mod Standing
mod Unsigned
