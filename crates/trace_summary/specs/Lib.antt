pub mod Figures
pub mod Longest
pub mod Stretches
pub mod Times
pub mod Progress
pub mod Keeping
pub mod LongestLaws
pub mod Holds
pub mod Usage
pub mod Summaries
pub mod TasksLaws
pub mod Adding
pub mod Using
pub mod Noting
pub mod Data
pub use Rattle.trace_state.specs.Board as TraceStateBoard
