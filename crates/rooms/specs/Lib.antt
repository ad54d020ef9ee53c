-- Nothing here is to be believed: what functions ask and give, and their proofs need.
pub mod Rooms
