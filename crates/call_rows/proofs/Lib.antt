pub mod MutexTables
pub mod MutexWaits
pub mod ObjectRows
pub mod SemGoes
pub mod RowWalks
pub mod EachMutex
pub mod Depths
pub mod RowIds
pub mod QueueGoes
pub mod QueueCalls
pub mod QueueKept
pub mod Callers
pub mod WatchGoes
pub mod Counts
pub mod Spawned
pub mod Taking
pub mod TaskMoves
pub mod KernRows
pub mod SafetyGoes
pub mod Deleting
pub mod RowMoves
pub use Rattle.kernel_world.proofs.LiveIds as KernelWorldLiveIds
pub use Rattle.kernel_world.proofs.WorldIds as KernelWorldWorldIds
pub use Rattle.kernel_world.proofs.Advancing as KernelWorldAdvancing
pub use Rattle.kernel_world.proofs.Stacks as KernelWorldStacks
pub use Rattle.kernel_world.proofs.Holding as KernelWorldHolding
pub use Rattle.kernel_world.proofs.Goes as KernelWorldGoes
pub use Rattle.kernel_world.proofs.Replying as KernelWorldReplying
pub use Rattle.kernel_world.proofs.Early as KernelWorldEarly
pub use Rattle.kernel_world.proofs.OneTask as KernelWorldOneTask
pub use Rattle.kernel_world.proofs.Opened as KernelWorldOpened
pub use Rattle.kernel_world.proofs.Living as KernelWorldLiving
pub use Rattle.kernel_world.proofs.Boards as KernelWorldBoards
pub use Rattle.kernel_world.proofs.ObjectMoves as KernelWorldObjectMoves
pub use Rattle.kernel_world.proofs.SemMutexAtOnce
pub use Rattle.kernel_world.proofs.Settling as KernelWorldSettling
pub use Rattle.kernel_world.proofs.Calming as KernelWorldCalming
