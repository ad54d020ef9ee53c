-- The laws that the proofs of the functions cite.
pub mod ListLaws
pub mod PairLaws
pub mod NumberLaws
pub mod OpLaws
pub mod FewLaws
