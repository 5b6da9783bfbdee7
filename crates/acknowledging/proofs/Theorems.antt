-- What the rule of acknowledgement gives, one theorem a file.
pub mod SameFrames
pub mod Heals
pub mod StuckBefore
