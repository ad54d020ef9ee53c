-- What crates above the check ask of a sheet: that the check accepted it, and the table that it filled.
-- What functions ask and give, and their proofs need:
pub mod Accepting
