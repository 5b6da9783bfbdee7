pub mod Choose
pub mod Moves
pub mod Messages
pub mod Live
pub mod Frames
pub mod Refusals
