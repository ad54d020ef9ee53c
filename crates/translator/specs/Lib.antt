-- A text translated into a sheet (docs/SHEETS.md, "Text"; codes 13 to 15): what the call gives.
-- To believe:
pub mod Translated
pub mod Promises
-- What functions ask and give, and their proofs need:
pub mod LayingOut
