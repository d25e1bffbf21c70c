pub mod Pieces
pub mod Changes
pub mod Happenings
pub mod Lines
pub mod Ending
pub mod Forms
pub mod Pages
pub mod Joining
