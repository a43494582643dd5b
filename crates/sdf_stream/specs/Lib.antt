-- The modules of this folder.
pub mod Told
pub mod Windows
pub mod Scans
pub mod Streams
