pub mod Writing
mod Order
