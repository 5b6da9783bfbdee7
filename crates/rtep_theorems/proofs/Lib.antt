-- What holds of what C calls.
pub mod Laws
pub mod Theorems
