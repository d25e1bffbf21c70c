pub mod Marks
pub mod Runs
pub mod Outcomes
pub mod Shown
pub mod Reached
pub mod Fetches
