pub mod LineLemmas
pub mod Merging
pub mod Events
pub mod Heaps
pub mod RuleLemmas
pub mod FormLemmas
pub mod TimetableLemmas
pub mod SayLemmas
mod Early
pub mod Writing
pub mod Adding
