pub mod Walking
mod Above
mod Keeping
mod Quiet
mod Tiling
mod Running
pub mod Replaying
