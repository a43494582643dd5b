-- The modules of this folder.
pub mod Plain
pub mod Seen
