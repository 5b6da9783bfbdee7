pub mod Runs
pub mod Table
pub mod Running
pub mod Replays
