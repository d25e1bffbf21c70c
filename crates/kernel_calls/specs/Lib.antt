pub mod ShowRows
pub mod ModuleRows
pub mod Removing
pub mod Standing
pub mod Calls
pub mod Space
pub mod Laws
pub use Rattle.text_show.specs.Value as TextShowValue
pub use Rattle.call_rows.specs.Unless as CallRowsUnless
pub use Rattle.call_rows.specs.IrqRows as CallRowsIrqRows
pub use Rattle.call_rows.specs.WatchRows as CallRowsWatchRows
pub use Rattle.call_rows.specs.Ending as CallRowsEnding
pub use Rattle.call_rows.specs.KernelWorldActors
pub use Rattle.call_rows.specs.KernelWorldReplies
pub use Rattle.call_rows.specs.KernelWorldKept
pub use Rattle.call_rows.specs.KernelWorldSeen
pub use Rattle.call_rows.specs.KernelWorldState
pub use Rattle.call_rows.specs.KernelWorldReply
pub use Rattle.call_rows.specs.KernelWorldActor
pub use Rattle.call_rows.specs.KernelWorldStarting
pub use Rattle.call_rows.specs.KernelWorldOpening
pub use Rattle.call_rows.specs.KernelWorldSettling
pub use Rattle.call_rows.specs.KernelWorldAllowed
pub use Rattle.call_rows.specs.TaskSafetySafety
pub use Rattle.call_rows.specs.KernelWorldObjects
pub use Rattle.call_rows.specs.KernelWorldObjectsType
pub use Rattle.call_rows.specs.SemMutexKept
pub use Rattle.call_rows.specs.KernelWorldCallWords
pub use Rattle.call_rows.specs.ModuleLoaderLoadErr
pub use Rattle.call_rows.specs.ModuleLoaderLoading
