-- The laws of the record that belong to no one function.
pub mod Laws
