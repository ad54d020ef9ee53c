-- What the contracts of the code say of the records that it writes.
-- Nothing here is to be believed: what functions ask and give, and their proofs need.
pub mod Slots
pub mod Emitting
