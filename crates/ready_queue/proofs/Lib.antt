pub mod Bits
pub mod Rotation
pub mod Coming
