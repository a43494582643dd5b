-- The modules of this folder.
pub mod Following
pub mod Growing
pub mod Adding
pub mod Marking
