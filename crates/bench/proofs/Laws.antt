-- Laws, one idea a file.
pub mod StandsBy
pub mod Delivered
pub mod Passing
pub mod Steps
pub mod Starting
pub mod Calls
pub mod Laying
pub mod Running
pub mod Turns
pub mod Going
pub mod Touched
pub mod Stepping
