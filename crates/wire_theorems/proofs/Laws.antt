-- Laws that the theorems use, one idea a file.
pub mod Addresses
pub mod Packets
pub mod Rings
pub mod Sent
pub mod Stores
pub mod Laid
pub mod Heard
pub mod Joined
