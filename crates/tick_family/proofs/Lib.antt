pub mod EntryLemmas
pub mod TextLemmas
pub mod ReadingLemmas
pub mod SortLemmas
pub mod ChoiceLemmas
pub mod MemberLemmas
pub mod PlainLemmas
