-- Laws of the call, its promises' terms, and instances of what its functions ask.
pub mod Telling
pub mod Kept
pub mod Witness
