pub mod Collecting
mod Coming
pub mod Taking
mod Reading
mod InterruptKey
mod Moving
pub mod Targets
