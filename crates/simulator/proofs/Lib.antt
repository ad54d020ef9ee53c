-- Laws of the run.
pub mod Running
pub mod Calls
pub mod Witness
