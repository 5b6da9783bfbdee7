-- What holds of the record, one theorem a file.
pub mod WriteRead
pub mod ReadWrite
pub mod Anew
pub mod TurnAlone
