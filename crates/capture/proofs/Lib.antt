-- The laws and theorems of the capture that belong to no one function.
pub mod Laws
pub mod Theorems
