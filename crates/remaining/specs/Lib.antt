-- What is promised of what can still happen.
-- To believe:
pub mod Promises
-- What functions ask and give, and their proofs need:
pub mod Remaining
