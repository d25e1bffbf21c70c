pub mod Laws
pub mod Libraries
pub mod Reaching
