-- The text that the program prints, as bytes, and what the functions that write it give.
-- To believe:
pub mod Digits
pub mod Lines
pub mod Promises
-- Worked examples, by computation:
pub mod Examples
-- What functions ask and give, and their proofs need; `WholeListing` speaks of what `put_lines` gives:
pub mod Wrote
pub mod Texts
pub mod Seen
pub mod Fills
