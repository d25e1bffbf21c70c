pub mod Absent
pub mod Bytes
pub mod Listed
pub mod Told
pub mod Placed
pub mod InList
