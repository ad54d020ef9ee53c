-- What the contracts of the code say: where tokens begin and end.
-- Nothing here is to be believed: what functions ask and give, and their proofs need.
pub mod Scanned
