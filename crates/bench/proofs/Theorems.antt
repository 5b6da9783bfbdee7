-- What holds of the bench, one theorem a file.
pub mod Bystander
