pub mod Chains
pub mod PartLemmas
