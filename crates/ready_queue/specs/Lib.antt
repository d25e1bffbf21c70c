pub mod Map
pub mod Order
pub mod Inside
pub mod Laws
