-- The theorems about the record, and the laws that they use.
pub mod Laws
pub mod Theorems
