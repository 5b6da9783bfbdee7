-- What a station sends, every other member reads as that frame; what is in the store stays there. One theorem a file.
pub mod FitBoth
pub mod Conveyed
pub mod PayloadsStay
pub mod QueuedCarried
pub mod HeardTaken
