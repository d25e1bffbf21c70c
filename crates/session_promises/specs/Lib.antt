pub mod Promises
pub mod Sessions
