pub mod Beginning
pub mod Moving
pub mod Deeds
pub mod Keeping
pub mod Living
pub mod Coding
