pub mod Quiet
pub mod Counting
pub mod FramesComposed
pub mod NoneRefused
pub mod NumbersFollow
pub mod OneAnswers
