mod Hex
pub mod LineLength
mod Numerals
mod Variants
mod Tables
pub mod Boarding
pub mod Gating
