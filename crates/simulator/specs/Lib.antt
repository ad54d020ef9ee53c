-- What a run is called with, and what comes of it.
-- To believe: the contract of the run.
pub mod Calls
-- What functions ask and give, and their proofs need:
pub mod Running
