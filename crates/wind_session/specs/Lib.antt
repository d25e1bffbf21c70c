pub mod Command
pub mod Fetches
pub mod Generated
pub mod Headline
pub mod Keeping
pub mod Laws
pub mod Live
pub mod Modules
pub mod Outside
pub mod Paths
pub mod Pieces
pub mod Plan
pub mod Program
pub mod Runs
pub mod Status
pub mod Telling
pub mod Texts
pub mod Words
pub use Rattle.board_player.specs.Seen as BoardPlayerSeen
pub use Rattle.board_player.specs.Bursts as BoardPlayerBursts
pub use Rattle.board_player.specs.LiveLoadingSaid
pub use Rattle.board_player.specs.declared.board.Board as BoardPlayerBoard
pub use Rattle.board_player.specs.WindMachineState
pub use Rattle.board_player.specs.WindMachineGood
pub use Rattle.board_player.specs.WindMachineInstants
pub use Rattle.board_player.specs.WindMachineMachine
pub use Rattle.board_player.specs.WindMachineRun
