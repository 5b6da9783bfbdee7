-- The laws and theorems of the script that belong to no one function.
pub mod Laws
pub mod Theorems
