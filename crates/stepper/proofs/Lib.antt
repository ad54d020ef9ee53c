-- Laws of a cycle.
pub mod Copies
pub mod WidthsAgain
pub mod Cycling
pub mod BeforeCycle
pub mod CallCycles
