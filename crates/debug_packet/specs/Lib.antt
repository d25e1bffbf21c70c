pub mod Fields
pub mod Packets
pub mod Written
