-- What the contracts of the code say of names.
-- Nothing here is to be believed: what functions ask and give, and their proofs need.
pub mod Scoped
pub mod TableNumbers
pub mod Held
