pub mod Asking
pub mod Frames
pub mod Lined
pub mod Lines
pub mod Listening
pub mod Standing
pub mod Strikes
pub mod Wire
