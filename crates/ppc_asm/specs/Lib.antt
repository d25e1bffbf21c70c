pub mod Assembly
pub mod Command
pub mod Laws
pub mod Listing
pub mod Fetches
pub mod Words
