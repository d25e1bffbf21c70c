mod Clipping
mod Ending
pub mod Naming
pub mod Replying
mod Replaying
pub mod Observing
pub mod Parts
mod Raising
mod Timing
mod Trapping
