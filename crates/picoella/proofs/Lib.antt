-- The laws of the static semantics.
pub mod Inversion
