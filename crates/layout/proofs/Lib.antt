-- The theorems, a file each.
pub mod Standing
pub mod TypesMeant
pub mod ConstructorTables
pub mod Tables
pub mod Sizes
pub mod PatternsRead
pub mod Decodes
pub mod Kept
pub mod Examples
