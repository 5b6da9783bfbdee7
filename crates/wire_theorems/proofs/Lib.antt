-- What a station sends, every other member reads as that frame; what is in the store stays there.
pub mod Laws
pub mod Theorems
