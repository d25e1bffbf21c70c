pub mod Threads
pub mod Stopping
pub mod Registers
pub mod Memory
pub mod Rows
pub mod Modules
pub mod Making
pub mod Laws
