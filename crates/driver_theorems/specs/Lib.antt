pub mod Held
pub mod NeverNotWhole
