pub mod Moved
pub use Rattle.board_player.specs.Seen as BoardPlayerSeen
pub use Rattle.board_player.specs.WindMachineState
pub use Rattle.board_trace.specs.WindMachinePhase
pub use Rattle.board_trace.specs.Running as BoardTraceRunning
pub use Rattle.board_trace.specs.Waited as BoardTraceWaited
