pub mod Finding
mod Removing
mod Chaining
mod Running
mod Hashing
