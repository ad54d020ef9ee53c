-- The theorems, a file each.
pub mod Examples
pub mod LeavesNumbered
pub mod KeptNumbers
pub mod TypeNumbers
pub mod AssembledParts
pub mod Assembled
pub mod Emitted
pub mod Written
pub mod NameNumbers
pub mod Instructed
pub mod FewInstructions
pub mod CodeLaws
pub mod TypeLaws
pub mod FromBottom
