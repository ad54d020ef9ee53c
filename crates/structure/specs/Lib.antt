-- The rules on records: what codes 1 to 6 say (docs/SHEETS.md, "Codes"), and when none of them applies.
-- To believe:
pub mod Rules
-- What functions ask and give, and their proofs need:
pub mod NamerTable
pub mod NamerEntries
pub mod LeafTable
pub mod DepthTable
pub mod PairIndex
pub mod Search
