-- What holds of every bench, one theorem a file.
pub mod ReachedQuiet
pub mod NoneRefused
pub mod OneAnswers
pub mod NumbersFollow
pub mod StaysWhole
pub mod FramesComposed
