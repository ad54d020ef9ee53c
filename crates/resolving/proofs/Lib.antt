-- The laws that the proofs of the functions cite.
pub mod SayingLaws
pub mod NameEntries
pub mod DeclareLaws
pub mod Noted
pub mod Walks
pub mod TakenLaws
