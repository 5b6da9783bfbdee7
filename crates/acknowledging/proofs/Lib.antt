-- What the rule of acknowledgement gives: the laws that the theorems use, and the theorems.
pub mod Laws
pub mod Theorems
