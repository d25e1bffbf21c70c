pub mod ActorSteps
pub mod Events
pub mod Extending
pub mod Feed
pub mod Good
pub mod Instants
pub mod Interrupts
pub mod Laws
pub mod Machine
pub mod Next
pub mod Part
pub mod Processor
pub mod Routine
pub mod Replies
pub mod Reserving
pub mod Run
pub mod Silent
pub mod Shell
pub mod State
pub mod Task
pub mod Text
pub use Rattle.live_loading.specs.KernelCallsCalls
pub use Rattle.live_loading.specs.KernelCallsSpace
pub use Rattle.live_loading.specs.Said as LiveLoadingSaid
pub use Rattle.live_loading.specs.Loading as LiveLoadingLoading
pub use Rattle.live_loading.specs.Laws as LiveLoadingLaws
pub use Rattle.live_loading.specs.KernelWorldObjects
pub use Rattle.live_loading.specs.Replies as LiveLoadingReplies
