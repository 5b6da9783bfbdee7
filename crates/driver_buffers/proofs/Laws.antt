pub mod Seats
pub mod Places
pub mod Stored
