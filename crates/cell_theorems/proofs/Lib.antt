-- Demand 3 at a driver's calls.
pub mod Laws
pub mod Theorems
