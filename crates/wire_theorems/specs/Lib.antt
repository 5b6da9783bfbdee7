pub mod Wire
pub mod Store
pub mod Carried
pub mod Taken
