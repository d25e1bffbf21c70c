pub mod Times
pub mod Entries
pub mod Members
pub mod Ranges
pub mod Reading
pub mod Inside
pub mod Laws
