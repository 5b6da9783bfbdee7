-- Demand 3 at a driver's calls. One theorem a file.
pub mod AsBench
pub mod NoneRefused
pub mod RowsComposed
pub mod Bound
pub mod Tight
