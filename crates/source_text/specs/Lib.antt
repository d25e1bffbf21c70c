pub mod Lines
pub mod Blanks
pub mod Numbers
pub mod Strings
pub mod Words
