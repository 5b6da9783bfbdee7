-- Laws that the theorems use, one idea a file.
pub mod WholeTyped
pub mod HeardFrames
pub mod MadeRecords
pub mod Numbers
