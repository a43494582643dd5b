-- The modules of this folder: what is said of sets of names.
pub mod Turned
pub mod Tree
