-- Laws of texts, and of buffers that they are written to.
pub mod Digits
pub mod Numerals
pub mod Lengths
pub mod Added
pub mod Front
pub mod Items
pub mod Chunks
pub mod Filling
pub mod Requirements
