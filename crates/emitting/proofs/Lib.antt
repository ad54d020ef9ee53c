-- The laws that the proofs of the functions cite.
pub mod RecordLaws
pub mod SlotLaws
pub mod AdvanceLaws
pub mod ZeroLaws
pub mod EmissionLaws
pub mod StepLaws
pub mod CodeLaws
pub mod TypeLaws
