pub mod Line
pub mod Laws
pub mod Fronts
pub mod Inside
