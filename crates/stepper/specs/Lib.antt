-- What a cycle is run with, and what comes of it.
-- Nothing here is to be believed: what functions ask and give, and their proofs need.
pub mod Cycling
pub mod CycleByCycle
