-- The modules of this folder.
pub mod Corners
pub mod Expansion
pub mod GateDelay
