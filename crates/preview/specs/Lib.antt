-- What a preview gives, and what is promised of it.
-- To believe:
pub mod Preview
pub mod Promises
-- What functions ask and give, and their proofs need:
pub mod Showing
