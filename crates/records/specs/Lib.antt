pub mod Layout
pub mod Tables
pub mod Fields
pub mod Record
