pub mod Endings
pub mod Kept
pub mod Effects
pub mod Splitting
pub mod Fates
