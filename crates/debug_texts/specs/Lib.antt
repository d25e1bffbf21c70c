pub mod Xml
pub mod Target
pub mod Lists
pub mod Replies
pub mod Parts
