pub mod Numbers
pub mod Frames
pub mod Keeping
pub mod Escapes
pub mod Laws
