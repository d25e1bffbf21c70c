pub mod RunLemmas
pub mod TallyLemmas
pub mod TableLemmas
pub mod JoinLemmas
