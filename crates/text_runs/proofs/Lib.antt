-- The theorems, and instances of what the functions on texts ask.
pub mod Fourteen
pub mod Kept
pub mod InTurnExample
pub mod TextTables
pub mod WitnessNames
pub mod WitnessWalk
pub mod WitnessOrder
pub mod WitnessSheet
