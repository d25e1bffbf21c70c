pub mod Asking
pub mod Inside
pub mod Seen
pub mod Moves
pub mod Facts
pub mod Going
pub mod Bursts
pub mod Knowing
pub mod Replies
pub mod Settling
pub use Rattle.wind_machine.specs.LiveLoadingSaid
pub use Rattle.live_loading.specs.KernelWorldReply
pub use Rattle.wind_machine.specs.State as WindMachineState
pub use Rattle.wind_machine.specs.Machine as WindMachineMachine
pub use Rattle.wind_machine.specs.Extending as WindMachineExtending
pub use Rattle.wind_machine.specs.Run as WindMachineRun
pub use Rattle.wind_machine.specs.Replies as WindMachineReplies
pub use Rattle.wind_machine.specs.Good as WindMachineGood
pub use Rattle.wind_machine.specs.Instants as WindMachineInstants
pub use Rattle.wind_machine.specs.Silent as WindMachineSilent
