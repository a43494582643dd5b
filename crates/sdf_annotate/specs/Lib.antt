-- The modules of this folder.
pub mod Progress
pub mod Search
pub mod Seen
pub mod Told
pub mod Whole
pub mod Streamed
pub mod AppliedLaws
