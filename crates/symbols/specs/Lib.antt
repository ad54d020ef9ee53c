-- What the contracts of the table of names say.
-- Nothing here is to be believed: what functions ask and give, and their proofs need.
pub mod Names
pub mod Spans
pub mod RoleNumbers
