-- Laws of the capture's definitions.
pub mod Fields
pub mod Reading
pub mod Checks
pub mod Events
