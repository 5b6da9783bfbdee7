pub mod Tables
pub mod Flags
pub mod Rest
pub mod Load
pub mod Sizes
pub mod Anew
