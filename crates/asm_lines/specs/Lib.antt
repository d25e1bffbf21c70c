pub mod Causes
pub mod Drafts
pub mod Gather
pub mod Items
pub mod Names
