pub mod Calls
pub mod Making
pub mod Hearing
pub mod Handing
