-- Laws of the codec's definitions, one file for each.
pub mod Order
pub mod Octets
pub mod Zeros
pub mod Bits
pub mod Position
pub mod Ring
pub mod Channels
pub mod Members
pub mod Forms
pub mod Written
pub mod Front
