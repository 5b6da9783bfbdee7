-- What is worth stating by itself.
pub mod ReadWrite
pub mod Numbers
