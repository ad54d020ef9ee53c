-- Laws on values as bytes.
pub mod LastKinds
pub mod Leaves
pub mod LeafByLeaf
pub mod Standing
pub mod Agreement
pub mod ChainLaws
pub mod Matches
pub mod Gathering
pub mod OneAnswer
