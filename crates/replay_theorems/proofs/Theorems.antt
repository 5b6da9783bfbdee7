-- One file a theorem.
pub mod LinesPrinted
pub mod StaysWhole
pub mod OneAnswers
pub mod LiveAtEnd
pub mod StopsBefore
pub mod FaultFree
pub mod BoundHolds
pub mod EveryCapture
pub mod AllOpen
pub mod Refused
pub mod Calls
pub mod CallsEnd
