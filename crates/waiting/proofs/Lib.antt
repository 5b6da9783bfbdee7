-- How long a message waits: the laws that the theorems use, and the theorems.
pub mod Laws
pub mod Theorems
