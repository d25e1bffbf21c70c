pub mod Fetching
pub mod Kept
