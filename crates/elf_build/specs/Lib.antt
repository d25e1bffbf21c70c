pub mod Entries
pub mod File
pub mod Buildable
pub mod Writable
pub mod Judging
pub mod Laws
