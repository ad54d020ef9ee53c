-- One cycle on bytes, the run of a call, and what is promised of it.
-- To believe:
pub mod Run
pub mod Afterwards
pub mod Firing
pub mod Reaching
pub mod Evaluated
pub mod Entries
pub mod SheetOrder
pub mod Writable
pub mod Promises
-- What the promises pin down, so that it need not be believed:
pub mod Terms
pub mod Delays
pub mod Sheets
pub mod Cycle
-- Examples, by computation:
pub mod Bench
pub mod FiringBench
-- What functions ask and give, and their proofs need:
pub mod Copies
pub mod Midway
