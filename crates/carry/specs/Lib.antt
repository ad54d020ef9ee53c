-- Carrying held values from a running sheet into a new one.
-- To believe:
pub mod Labels
pub mod Carried
pub mod Carry
pub mod Promises
-- Examples, by computation:
pub mod Cases
-- What functions ask and give, and their proofs need:
pub mod Bearers
pub mod Carrying
pub mod CarryAnswered
