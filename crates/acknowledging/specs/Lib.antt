pub mod Before
pub mod Missing
pub mod SameFrames
pub mod Heals
