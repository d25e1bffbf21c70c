pub mod Beginning
pub mod Running
pub mod Deciding
pub mod Delivering
pub mod Idle
pub mod Asked
pub mod Answering
pub mod Keeping
pub mod Fetching
pub mod Stepping
pub mod Going
pub mod Settled
pub mod Moving
pub mod Quiet
pub mod ManySteps
pub mod TaskBursts
pub mod RoutineBursts
pub use Rattle.wind_machine.proofs.Asking as WindMachineAsking
