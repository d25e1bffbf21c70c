pub mod Views
pub mod Waited
pub mod Mutexes
pub mod Causes
pub mod Before
pub mod Snapshots
pub mod Errors
pub mod Outside
pub mod Level
pub mod Owners
pub mod Messages
pub mod Steps
pub mod Subjects
pub mod Runs
pub mod Laws
pub mod Traps
pub mod Running
pub mod Observed
pub use Rattle.wind_machine.specs.Silent as WindMachineSilent
pub use Rattle.wind_machine.specs.Machine as WindMachineMachine
pub use Rattle.wind_machine.specs.State as WindMachineState
pub use Rattle.wind_machine.specs.Next as WindMachineNext
pub use Rattle.wind_machine.specs.Feed as WindMachineFeed
pub use Rattle.wind_machine.specs.declared.next.Next as WindMachineNextType
pub use Rattle.wind_machine.specs.declared.phase.Phase as WindMachinePhase
