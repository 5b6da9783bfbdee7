-- Laws that the theorems use, one idea a file.
pub mod Both
pub mod Afresh
pub mod AfreshRuns
pub mod Calm
pub mod Alike
pub mod Missed
pub mod Untouched
pub mod Lull
pub mod Meanwhile
pub mod Resent
