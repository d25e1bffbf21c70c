pub mod Bursts
pub mod Covered
pub mod Executed
pub mod Listed
pub mod Text
