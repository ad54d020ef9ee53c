-- Laws of the stimulus, and of its checks.
pub mod Pieces
pub mod Stimulus
pub mod Tests
pub mod Holding
pub mod OneCycle
pub mod OneCycleCalls
pub mod Witness
