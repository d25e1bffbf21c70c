pub mod Wakes
pub mod Inside
pub mod Laws
