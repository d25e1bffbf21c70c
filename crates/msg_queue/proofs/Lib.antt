pub mod Tables
pub mod Members
pub mod Running
mod Deeds
pub mod Calm
pub mod Traffic
pub mod Keeping
mod Waits
mod Steps
pub mod Events
mod Conserved
mod Room
mod Arms
mod Takes
pub mod Counts
mod Deletions
