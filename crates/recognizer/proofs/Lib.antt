-- The laws that the proofs of the functions cite.
pub mod RowLaws
pub mod ClassLaws
pub mod WordLaws
pub mod StackLaws
pub mod MachineLaws
pub mod Loop
