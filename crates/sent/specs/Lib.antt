pub mod Round
pub mod Resend
