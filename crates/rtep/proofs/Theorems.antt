-- Theorems of what a driver lends.
pub mod Sizes
