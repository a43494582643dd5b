-- The modules of this folder.
pub mod Clash
pub mod Columns
pub mod Faults
pub mod Meaning
pub mod Symbols
