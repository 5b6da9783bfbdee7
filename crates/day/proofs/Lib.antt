-- The laws of the recorded day, record by record, that belong to no one function.
pub mod Laws
