-- The theorems, a file each; `Kept` holds a term of every promise.
pub mod Lexed
pub mod Computes
pub mod Kept
