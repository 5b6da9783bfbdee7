-- What holds of every recorded day: the laws that the theorems use, and the theorems.
pub mod Laws
pub mod Theorems
