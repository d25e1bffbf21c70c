pub mod Said
pub mod Texts
pub mod Loading
pub mod Replies
pub mod Causes
pub mod Laws
pub use Rattle.kernel_calls.specs.TextShowValue
pub use Rattle.kernel_calls.specs.CallRowsUnless
pub use Rattle.kernel_calls.specs.CallRowsIrqRows
pub use Rattle.kernel_calls.specs.CallRowsWatchRows
pub use Rattle.kernel_calls.specs.CallRowsEnding
pub use Rattle.kernel_calls.specs.Calls as KernelCallsCalls
pub use Rattle.kernel_calls.specs.Laws as KernelCallsLaws
pub use Rattle.kernel_calls.specs.Space as KernelCallsSpace
pub use Rattle.kernel_calls.specs.Removing as KernelCallsRemoving
pub use Rattle.kernel_calls.specs.KernelWorldStarting
pub use Rattle.kernel_calls.specs.KernelWorldState
pub use Rattle.kernel_calls.specs.KernelWorldOpening
pub use Rattle.kernel_calls.specs.KernelWorldActors
pub use Rattle.kernel_calls.specs.KernelWorldActor
pub use Rattle.kernel_calls.specs.KernelWorldKept
pub use Rattle.kernel_calls.specs.KernelWorldSettling
pub use Rattle.kernel_calls.specs.KernelWorldReplies
pub use Rattle.kernel_calls.specs.KernelWorldAllowed
pub use Rattle.kernel_calls.specs.TaskSafetySafety
pub use Rattle.kernel_calls.specs.KernelWorldObjects
pub use Rattle.kernel_calls.specs.KernelWorldObjectsType
pub use Rattle.kernel_calls.specs.SemMutexKept
pub use Rattle.kernel_calls.specs.KernelWorldCallWords
pub use Rattle.kernel_calls.specs.KernelWorldReply
pub use Rattle.kernel_calls.specs.ModuleLoaderLoadErr
pub use Rattle.kernel_calls.specs.ModuleLoaderLoading
pub use Rattle.kernel_calls.specs.KernelWorldSeen
