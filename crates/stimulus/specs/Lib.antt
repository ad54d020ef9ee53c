-- The stimulus: its cycles, and the checks 8 and 9.
-- To believe:
pub mod Stimulus
pub mod OneCycle
pub mod OneCycleCalls
-- What functions ask and give, and their proofs need:
pub mod Tests
pub mod Holding
