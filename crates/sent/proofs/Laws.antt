-- Laws of the definitions that the functions' proofs use, one file for each.
pub mod Resend
