-- What holds of every bench: the laws that the theorems use, and the theorems.
pub mod Laws
pub mod Theorems
