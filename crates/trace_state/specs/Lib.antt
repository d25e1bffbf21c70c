pub mod Json
pub mod Held
pub mod Tasks
pub mod Objects
pub mod Modules
pub mod Memory
pub mod Board
pub mod Inside
pub use Rattle.board_reading.specs.Moved as BoardReadingMoved
