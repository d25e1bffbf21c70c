pub mod Safety
pub mod Deletion
pub mod Kept
pub mod Laws
