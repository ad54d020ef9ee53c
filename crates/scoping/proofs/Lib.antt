-- The laws that the proofs of the functions cite.
pub mod TableLaws
pub mod Admissions
pub mod EntryLaws
pub mod ScopeLaws
