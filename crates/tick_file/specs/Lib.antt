pub mod Grammar
pub mod Lines
pub mod Schedule
pub mod Inside
pub mod Forms
pub mod Laws
pub mod Writing
