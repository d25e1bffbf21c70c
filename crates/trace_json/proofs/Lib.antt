mod ChromeDepth
mod Depth
pub mod Gaining
