-- The rules on names and constants of a text (docs/SHEETS.md, "Names"; code 14): as a list of checks in text order, of which the first that fails is told.
-- To believe:
pub mod Declared
pub mod Checks
pub mod Constants
pub mod Names
pub mod RecordsNeeded
pub mod Promises
-- What functions ask and give, and their proofs need:
pub mod TokenWalk
