pub mod State
pub mod Sends
pub mod Receives
pub mod Comings
pub mod Inside
pub mod Kept
pub mod Machine
pub mod Laws
