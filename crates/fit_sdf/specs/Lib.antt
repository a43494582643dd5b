-- The modules of this folder.
pub mod Counts
pub mod Fitted
