-- The theorems, and examples by computation.
pub mod Nested
pub mod Counting
pub mod NamedOnce
pub mod Walked
pub mod RecordsSaid
pub mod TypesReady
pub mod SheetSaid
pub mod PairTypes
pub mod Depths
pub mod TextDeep
pub mod Verdicts
pub mod WellTyped
pub mod BadPlaces
pub mod NamedTyping
pub mod AcceptedText
pub mod Kept
pub mod Examples
