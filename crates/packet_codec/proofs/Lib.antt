-- The laws and theorems of packets that belong to no one function.
pub mod Laws
pub mod Theorems
