-- What the contracts of the code say.
-- Nothing here is to be believed: what functions ask and give, and their proofs need.
pub mod Said
pub mod Walked
