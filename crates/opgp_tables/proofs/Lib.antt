mod Cutting
mod Collecting
mod Counting
pub mod Documents
mod FilledJobs
mod FilledSubpackets
mod Filling
mod Holding
mod Joining
mod Lines
mod Naming
mod Pointing
mod Valued
mod Working
