pub mod State
pub mod Keys
pub mod Lines
pub mod Effect
pub mod Laws
pub mod Fates
