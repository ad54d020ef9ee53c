-- The laws that the proofs of the functions cite, and what they find.
pub mod Runs
pub mod Found
