pub mod LineOrder
pub mod Places
pub mod Standing
pub mod Walking
pub mod Firsts
pub mod Changing
