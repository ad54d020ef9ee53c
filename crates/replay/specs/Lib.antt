-- What a replay gives, and what is promised of it.
-- To believe:
pub mod Replay
pub mod Promises
-- What functions ask and give, and their proofs need:
pub mod Replaying
pub mod Findings
