-- The modules of this folder.
pub mod Parsed
pub mod Opened
