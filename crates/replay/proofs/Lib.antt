-- The laws of the recorded day that belong to no one function.
pub mod Laws
pub mod Theorems
