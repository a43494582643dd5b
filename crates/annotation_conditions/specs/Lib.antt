-- The modules of this folder.
pub mod Seen
