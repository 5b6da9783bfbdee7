-- How long a message waits, one theorem a file.
pub mod Before
pub mod Bound
pub mod Tight
pub mod Three
