-- The modules of this folder.
pub mod Simulated
pub mod Notifiers
pub mod AtOnce
pub mod Cells
pub mod Inputs
pub mod Elements
pub mod Evaluable
