pub mod Joining
pub mod Sums
pub mod Tasks
pub mod Noting
pub mod Distinct
pub mod Usages
mod Mapping
mod Depth
mod Longest
mod Keeping
mod Extending
