pub mod Unloading
