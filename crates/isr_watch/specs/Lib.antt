pub mod State
pub mod Calls
pub mod Inside
pub mod Lends
pub mod Laws
