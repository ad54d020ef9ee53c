-- Laws of evaluation.
pub mod Frames
pub mod Wanted
pub mod Readiness
pub mod LentParts
pub mod LentNames
pub mod LentBranches
pub mod Parts
pub mod Names
pub mod Chains
pub mod Settling
pub mod Feedbacks
pub mod Branches
