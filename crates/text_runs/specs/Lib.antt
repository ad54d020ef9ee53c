-- Calls on a text and on its sheet.
-- To believe:
pub mod Promises
-- Examples, by computation, with the promise that speaks of them:
pub mod RunRows
