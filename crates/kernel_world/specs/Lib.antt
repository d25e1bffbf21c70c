pub mod Objects
pub mod State
pub mod Starting
pub mod Actors
pub mod CallWords
pub mod Allowed
pub mod Replies
pub mod Opening
pub mod Seen
pub mod LiveIds
pub mod Kept
pub mod Settling
pub use Rattle.sem_mutex.specs.TaskSafetySafety
pub use Rattle.sem_mutex.specs.Kept as SemMutexKept
pub use Rattle.module_loader.specs.declared.module.LoadErr as ModuleLoaderLoadErr
pub use Rattle.module_loader.specs.Loading as ModuleLoaderLoading
pub use Rattle.sem_plain.specs.declared.semaphore.Semaphore as SemPlainSemaphore
pub use Rattle.sem_plain.specs.State as SemPlainState
pub use Rattle.sem_plain.specs.Calls as SemPlainCalls
pub use Rattle.sem_plain.specs.Laws as SemPlainLaws
pub use Rattle.sem_plain.specs.Kept as SemPlainKept
pub use Rattle.sem_mutex.specs.InheritanceMutexes
pub use Rattle.sem_mutex.specs.InheritanceMutex
pub use Rattle.sem_mutex.specs.InheritanceReach
pub use Rattle.sem_mutex.specs.Calls as SemMutexCalls
pub use Rattle.sem_mutex.specs.Making as SemMutexMaking
pub use Rattle.sem_mutex.specs.Laws as SemMutexLaws
pub use Rattle.msg_queue.specs.Kept as MsgQueueKept
