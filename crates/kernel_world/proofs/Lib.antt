pub mod Boards
pub mod Living
pub mod OneTask
pub mod Early
pub mod Stacks
pub mod Holding
pub mod Safes
pub mod Calming
pub mod Apart
pub mod Waiting
pub mod ObjectMoves
pub mod Goes
pub mod LiveIds
pub mod WorldIds
pub mod Advancing
pub mod Replying
pub mod Opened
pub mod Settling
pub use Rattle.sem_mutex.proofs.AtOnce as SemMutexAtOnce
pub use Rattle.sem_plain.proofs.Keeping as SemPlainKeeping
pub use Rattle.sem_plain.proofs.Deeds as SemPlainDeeds
pub use Rattle.sem_plain.proofs.Living as SemPlainLiving
pub use Rattle.sem_plain.proofs.Moving as SemPlainMoving
pub use Rattle.sem_mutex.proofs.TaskSafetyWaiting
pub use Rattle.sem_mutex.proofs.Lawful as SemMutexLawful
pub use Rattle.sem_mutex.proofs.Answering as SemMutexAnswering
pub use Rattle.sem_plain.proofs.Beginning as SemPlainBeginning
pub use Rattle.sem_mutex.proofs.Following as SemMutexFollowing
pub use Rattle.sem_mutex.proofs.Deeds as SemMutexDeeds
pub use Rattle.sem_mutex.proofs.Keeping as SemMutexKeeping
pub use Rattle.sem_mutex.proofs.Handing as SemMutexHanding
pub use Rattle.msg_queue.proofs.Calm as MsgQueueCalm
