-- Laws of wholeness that the functions' proofs use.
pub mod Whole
