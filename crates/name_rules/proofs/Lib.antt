-- The theorems, a file each; `Kept` holds a term of every promise of the front page.
pub mod First
pub mod EachOnce
pub mod TextOrder
pub mod ConstantOrder
pub mod Bounded
pub mod ByTokens
pub mod SameName
pub mod Kept
pub mod Examples
