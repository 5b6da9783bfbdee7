-- What holds of what C calls, one theorem a file.
pub mod OneAnswer
pub mod ReadWrite
pub mod WriteRead
pub mod RingFile
pub mod Forms
pub mod Located
