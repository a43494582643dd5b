-- The modules of this folder.
pub mod Stimulus
pub mod Applied
pub mod Seen
