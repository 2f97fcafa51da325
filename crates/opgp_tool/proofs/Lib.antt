mod OneTask
mod Parsing
mod Reading
mod SameLimits
mod Texts
