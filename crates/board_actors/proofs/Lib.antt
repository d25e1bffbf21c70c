pub mod Blanks
pub mod Bursting
pub mod Bytes
pub mod Dropped
pub mod Executed
pub mod FeedLemmas
pub mod Readied
pub mod Calling
