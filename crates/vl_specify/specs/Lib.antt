-- The modules of this folder.
pub mod Delays
pub mod Parts
pub mod Faults
pub mod Reading
