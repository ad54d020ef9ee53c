-- The proof of the table of verdicts.
pub mod Kept
