pub mod Instructions
pub mod ShellInside
pub mod StepStart
pub mod Running
pub mod StepReply
