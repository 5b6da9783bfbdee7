-- Laws that the theorems use, one idea a file.
pub mod Values
pub mod Files
pub mod Members
