pub mod Newest
pub mod State
pub mod Laws
pub mod Chains
pub mod Runs
