pub mod Appended
pub mod Lines
