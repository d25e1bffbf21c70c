pub mod Placing
pub mod Loading
pub mod Modules
pub mod Holding
pub mod Steps
pub mod Live
pub mod Writes
