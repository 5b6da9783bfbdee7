-- What holds of the script, one theorem a file.
pub mod LongLines
pub mod InParts
pub mod Reading
