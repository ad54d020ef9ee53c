-- Texts with what their translation gives.
-- To believe:
pub mod Promises
-- Examples, by computation, of which the promises speak:
pub mod Rows
pub mod SheetRows
-- The computation that holds the rows to the translation, which the promises pin down:
pub mod Lexer
pub mod Computed
