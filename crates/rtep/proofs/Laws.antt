-- Laws of the exports' definitions.
pub mod Told
