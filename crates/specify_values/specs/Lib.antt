-- The modules of this folder: what the code's values stand for.
pub mod Telling
pub mod PortNames
pub mod Seen
