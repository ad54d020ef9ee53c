-- The laws of one output leaf.
pub mod Inputs
pub mod Settled
pub mod Rooms
pub mod Shown
pub mod Witness
