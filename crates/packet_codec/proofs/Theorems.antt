-- Reading undoes writing, and writing undoes reading.
pub mod ReadWrite
pub mod WriteRead
pub mod BadAt
