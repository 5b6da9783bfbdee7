-- Laws of the definitions of packets, one file for each.
pub mod Packet
pub mod Looked
pub mod Written
