-- What the program prints and what is promised of it.
-- To believe:
pub mod Printout
pub mod Promises
-- What functions ask and give, and their proofs need:
pub mod Lengths
pub mod Telling
