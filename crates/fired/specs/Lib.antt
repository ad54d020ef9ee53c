-- What the call gives that tells which alternative fired, and what is promised of it.
-- To believe:
pub mod Telling
pub mod Promises
-- What functions ask and give, and their proofs need:
pub mod TellingCycle
