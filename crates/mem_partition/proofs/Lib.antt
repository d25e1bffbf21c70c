pub mod Places
pub mod Keeping
pub mod Allocs
mod Meeting
mod Counting
pub mod Owners
mod Splitting
mod Merging
mod Rising
mod Steps
mod Seeking
