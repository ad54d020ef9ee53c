-- The laws of answers, of lists of checks and of searches.
pub mod Lowest
pub mod First
pub mod StandardLaws
pub mod VerdictCodes
pub mod Kept
