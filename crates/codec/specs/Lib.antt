pub mod Order
pub mod Octets
pub mod Bits
pub mod Sizes
pub mod Ring
