pub mod Chains
pub mod Inside
pub mod Named
pub use Rattle.id_table.specs.Rows as IdTableRows
pub use Rattle.id_table.specs.declared.ident.Place as IdTablePlace
pub use Rattle.id_table.specs.Arrivals as IdTableArrivals
pub use Rattle.id_table.specs.Records as IdTableRecords
pub use Rattle.id_table.specs.Sorting as IdTableSorting
