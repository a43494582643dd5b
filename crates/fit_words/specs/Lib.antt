-- The modules of this folder.
pub mod Arguments
pub mod ArgumentsSeen
pub mod Paths
pub mod Words
pub mod WordsSeen
