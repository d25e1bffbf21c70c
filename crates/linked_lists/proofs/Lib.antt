pub mod Links
pub mod Keeping
pub mod Telling
pub mod Nodes
pub mod Naming
pub mod Standing
pub use Rattle.id_table.proofs.Places as IdTablePlaces
pub use Rattle.id_table.proofs.Arrivals as IdTableArrivals
pub use Rattle.id_table.proofs.Sorting as IdTableSorting
pub use Rattle.id_table.proofs.Orders as IdTableOrders
pub use Rattle.id_table.proofs.Passing as IdTablePassing
