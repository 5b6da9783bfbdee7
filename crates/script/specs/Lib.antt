pub mod Lines
pub mod Script
pub mod Session
pub mod Reading
pub mod InParts
