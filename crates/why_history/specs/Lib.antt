-- The modules of this folder.
pub mod Events
pub mod Ends
pub mod Bounds
