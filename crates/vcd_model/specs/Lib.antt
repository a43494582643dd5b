-- The modules of this folder, in reading order.
pub mod Inputs
pub mod Values
pub mod Stimulus
pub mod Faults
pub mod Reading
