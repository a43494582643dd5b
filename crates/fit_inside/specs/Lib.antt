-- The modules of this folder.
pub mod Inside
pub mod Seen
