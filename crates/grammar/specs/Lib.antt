-- The grammar of texts (docs/SHEETS.md, "Grammar"): tokens, the abstract text, the productions, where a text leaves the grammar, and the promises.
-- To believe:
pub mod Tokens
pub mod Source
pub mod Grammar
pub mod Legal
pub mod Promises
-- The machine that finds that place, what proofs and code use:
pub mod Rows
pub mod Machine
pub mod Walk
pub mod Sizes
