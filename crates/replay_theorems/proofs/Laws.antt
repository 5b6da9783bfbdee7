-- Laws that the theorems use, one idea a file.
pub mod Turning
pub mod Placed
pub mod Handing
pub mod WholeRecords
pub mod Beginning
pub mod Striking
pub mod LiveRecords
pub mod Reading
pub mod SameKinds
pub mod OnBench
pub mod SameRun
pub mod Offsets
pub mod Calling
