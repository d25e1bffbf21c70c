pub mod Targets
pub mod Going
pub mod Waiting
