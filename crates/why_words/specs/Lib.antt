-- The modules of this folder.
pub mod Words
pub mod WordsSeen
