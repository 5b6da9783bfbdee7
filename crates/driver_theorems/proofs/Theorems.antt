-- What holds of a driver's calls, one theorem a file.
pub mod Held
pub mod NeverNotWhole
pub mod Located
