-- What holds of a driver's calls.
pub mod Laws
pub mod Theorems
