pub mod Calls
pub mod Inside
pub mod Kept
pub mod Making
pub mod Laws
pub use Rattle.task_safety.specs.Kept as TaskSafetyKept
pub use Rattle.task_safety.specs.Safety as TaskSafetySafety
pub use Rattle.inheritance.specs.declared.mutex.Mutex as InheritanceMutex
pub use Rattle.inheritance.specs.Mutexes as InheritanceMutexes
pub use Rattle.inheritance.specs.Reach as InheritanceReach
