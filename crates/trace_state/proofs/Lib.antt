mod Rows
pub mod Shallow
mod Nesting
mod Depth
mod Growing
mod Devices
