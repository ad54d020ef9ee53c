-- Laws.
pub mod SetsAt
pub mod SetReadiness
pub mod SetParts
pub mod SetNames
pub mod SetBranches
pub mod SetLeaves
pub mod SetHeld
