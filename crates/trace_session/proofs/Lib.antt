pub mod Bursts
pub mod Charting
mod ChartSpans
pub mod Counting
pub mod Counts
pub mod Covering
pub mod Items
pub mod LineLaws
pub mod Lines
pub mod Living
pub mod Parting
pub mod Picturing
pub mod Puts
mod QueueRows
pub mod Seeing
pub mod Selecting
pub mod SilentLines
pub mod Telling
pub mod Watched
mod CommandLemmas
mod LeftLemmas
mod ProgramLemmas
mod TracePromises
mod Skipping
