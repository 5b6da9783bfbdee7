-- The laws of what a driver is told, and theorems of what it lends.
pub mod Laws
pub mod Theorems
