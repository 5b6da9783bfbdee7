-- The theorems about the station's rules, and the laws that they use.
pub mod Laws
pub mod Theorems
