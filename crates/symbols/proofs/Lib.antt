-- The laws that the proofs of the functions cite.
pub mod Letters
pub mod Search
pub mod Roles
