-- Laws that the theorems use, one idea a file.
pub mod Octets
pub mod Calls
pub mod Nodes
pub mod Files
pub mod Begins
pub mod Matching
pub mod Starts
pub mod Steps
pub mod Queues
pub mod Rows
pub mod Runs
pub mod Waiting
pub mod Own
pub mod Outcomes
