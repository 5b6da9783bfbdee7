-- Laws of the station's definitions that the functions' proofs use, one file for each.
pub mod Moved
pub mod Heard
pub mod Deeds
pub mod Heads
pub mod Decide
pub mod Timer
pub mod Stations
