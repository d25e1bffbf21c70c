pub mod Mutexes
pub mod Reach
pub mod Laws
pub mod Goals
