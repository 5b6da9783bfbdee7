-- The theorem over the table of cases.
pub mod Holds
