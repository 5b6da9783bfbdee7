-- Laws of the definitions of the parts that the functions' proofs use, one file for each.
pub mod Choose
pub mod Frames
pub mod Tests
pub mod Live
pub mod Messages
pub mod Places
pub mod Ahead
pub mod Best
pub mod Moves
pub mod Queue
