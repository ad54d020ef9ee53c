-- The type rules (docs/SHEETS.md) on expressions: the judgements in their order, and what judging an expression gives.
-- To believe, for `TableFixed` of `verdict`:
pub mod ExpressionWidth
-- What the promises pin down, so that it need not be believed:
pub mod Judgements
pub mod Outcomes
-- Examples, by computation:
pub mod Rows
pub mod NameRows
pub mod TypeRows
pub mod PatternRows
pub mod OrderRows
-- What functions ask and give, and their proofs need:
pub mod Judging
pub mod LeafChains
pub mod PatternTable
