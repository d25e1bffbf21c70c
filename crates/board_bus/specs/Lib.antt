pub mod BusState
pub mod Slots
pub mod Access
pub mod Seen
pub mod Lawful
pub mod Laws
