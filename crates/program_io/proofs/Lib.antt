-- Instances of what the functions ask.
pub mod Requirements
