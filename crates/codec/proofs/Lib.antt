-- The laws and theorems of the codec that belong to no one function.
pub mod Laws
pub mod Theorems
