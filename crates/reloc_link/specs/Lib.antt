pub mod Types
pub mod Formula
pub mod Patched
pub mod Laws
