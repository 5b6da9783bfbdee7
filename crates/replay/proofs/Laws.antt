-- Laws, one idea a file.
pub mod Turns
pub mod Marks
pub mod Days
pub mod Running
pub mod Refusing
pub mod Opening
pub mod Starting
