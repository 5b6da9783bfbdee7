pub mod Places
pub mod Packets
pub mod Telling
