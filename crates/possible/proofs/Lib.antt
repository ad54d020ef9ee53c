-- Theorems.
pub mod FilledTerms
pub mod WithoutFeedback
pub mod Kept
