-- Theorems, one a file.
pub mod Calls
