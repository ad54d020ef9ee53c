-- The laws of the pieces, and instances of what the functions ask.
pub mod Pieces
pub mod Requirements
