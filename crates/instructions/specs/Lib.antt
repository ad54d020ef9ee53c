-- The instructions between a text and its records.
-- What functions ask and give, and their proofs need; no part of what is promised:
pub mod Instruction
pub mod Said
pub mod Code
pub mod TextOrder
pub mod TokenOrder
pub mod Assembly
pub mod Types
pub mod RecordOrder
pub mod Emission
