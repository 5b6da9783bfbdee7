-- Laws that the theorems use, one idea a file.
pub mod Goes
pub mod Numbers
pub mod Rows
pub mod Slips
pub mod Turns
pub mod Flags
pub mod Lists
pub mod Front
pub mod Stations
pub mod Reading
