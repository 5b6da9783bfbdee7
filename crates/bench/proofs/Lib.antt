-- The laws and theorems of the bench that belong to no one function.
pub mod Laws
pub mod Theorems
