pub mod Following
pub mod Beside
pub mod Counting
pub mod Owning
pub mod Lifting
pub mod AtOnce
pub mod Handing
pub mod Giving
pub mod Deeds
pub mod Keeping
pub mod Ending
pub mod Making
pub mod Steady
pub mod Opening
pub mod Lawful
pub mod Answering
pub mod Heirs
pub use Rattle.task_safety.proofs.Waiting as TaskSafetyWaiting
pub use Rattle.inheritance.proofs.Same as InheritanceSame
pub use Rattle.inheritance.proofs.Exact as InheritanceExact
