pub mod Packet
pub mod Typed
pub mod RoundTrip
pub mod BadAt
