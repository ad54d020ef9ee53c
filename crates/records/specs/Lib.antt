-- What the bytes of a sheet say: words, the table of kinds, what each word asks, namings, types, chains, and the circuit as a
-- tree of records, decoded to an expression of picoELLA.
-- To believe:
pub mod Words
pub mod Kinds
pub mod Says
pub mod Trees
pub mod Decoding
pub mod SheetOf
pub mod OnlyLabels
-- Examples, by computation:
pub mod DecodingRows
-- What functions ask and give, and their proofs need:
pub mod Limits
pub mod Sized
pub mod Kinded
pub mod Written
pub mod Rewritten
