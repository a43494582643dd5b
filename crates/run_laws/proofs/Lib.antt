-- The modules of this folder.
pub mod Idle
pub mod Rounds
pub mod Times
pub mod Sets
pub mod Circuits
