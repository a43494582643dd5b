-- The modules of this folder.
pub mod Limits
pub mod Table
pub mod Timings
