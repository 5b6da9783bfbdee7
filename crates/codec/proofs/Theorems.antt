-- What is proved of the codec's definitions, one theorem a file.
pub mod OneAnswer
pub mod RingFile
pub mod Forms
