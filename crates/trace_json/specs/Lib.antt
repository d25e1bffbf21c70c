pub mod Calls
pub mod Changes
pub mod Chrome
pub mod Happenings
pub mod Lines
