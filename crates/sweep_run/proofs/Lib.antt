pub mod RunLemmas
pub mod MarkLemmas
pub mod FetchLemmas
pub mod ShownLemmas
