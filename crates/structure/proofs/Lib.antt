-- Laws that belong to no one function.
pub mod DepthCounts
pub mod Depths
pub mod LeafCounts
pub mod Namers
pub mod EntriesFit
pub mod PairSearch
pub mod Passes
pub mod WrongRecords
