-- Laws, one idea a file.
pub mod Numbers
pub mod Lines
pub mod Reading
pub mod Session
