pub mod Cell
pub mod AsBench
pub mod Waiting
