-- What the tables of the code hold of an assembly, and what its functions ask and give.
-- Nothing here is to be believed: what functions ask and give, and their proofs need.
pub mod Held
pub mod Assembled
pub mod Numbers
