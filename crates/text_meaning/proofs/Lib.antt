-- The theorems, a file each.
pub mod OneMeaning
pub mod Naming
pub mod Matched
pub mod Related
pub mod InScope
pub mod Simulates
pub mod NamesStand
pub mod TakenNames
pub mod ConstantsStand
pub mod Begins
pub mod InTurn
pub mod Kept
