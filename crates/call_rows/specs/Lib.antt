pub mod Unless
pub mod SemRows
pub mod QueueRows
pub mod WatchRows
pub mod IrqRows
pub mod TaskRows
pub mod Ending
pub mod SafetyRows
pub mod MemoryRows
pub mod SymbolRows
pub mod Spawning
pub use Rattle.kernel_world.specs.Actors as KernelWorldActors
pub use Rattle.kernel_world.specs.CallWords as KernelWorldCallWords
pub use Rattle.kernel_world.specs.Allowed as KernelWorldAllowed
pub use Rattle.kernel_world.specs.Kept as KernelWorldKept
pub use Rattle.kernel_world.specs.Objects as KernelWorldObjects
pub use Rattle.kernel_world.specs.Seen as KernelWorldSeen
pub use Rattle.kernel_world.specs.State as KernelWorldState
pub use Rattle.kernel_world.specs.declared.call.Call as KernelWorldCall
pub use Rattle.kernel_world.specs.Replies as KernelWorldReplies
pub use Rattle.kernel_world.specs.declared.actor.Actor as KernelWorldActor
pub use Rattle.kernel_world.specs.declared.reply.Reply as KernelWorldReply
pub use Rattle.kernel_world.specs.Opening as KernelWorldOpening
pub use Rattle.kernel_world.specs.declared.objects.Objects as KernelWorldObjectsType
pub use Rattle.kernel_world.specs.LiveIds as KernelWorldLiveIds
pub use Rattle.kernel_world.specs.Starting as KernelWorldStarting
pub use Rattle.kernel_world.specs.Settling as KernelWorldSettling
pub use Rattle.kernel_world.specs.TaskSafetySafety
pub use Rattle.kernel_world.specs.SemMutexKept
pub use Rattle.kernel_world.specs.ModuleLoaderLoadErr
pub use Rattle.kernel_world.specs.ModuleLoaderLoading
