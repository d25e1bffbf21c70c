pub mod Code
pub mod Memory
pub mod Pages
pub mod Store
