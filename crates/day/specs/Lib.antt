pub mod Day
pub mod Listening
pub mod Records
pub mod Printed
pub mod Wire
pub mod Strikes
pub mod Calls
pub mod Plans
