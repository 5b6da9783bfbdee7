-- What is true of the program that belongs to no one function.
pub mod Theorems
