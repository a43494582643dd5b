-- The modules of this folder.
pub mod Names
pub mod Words
pub mod WordsSeen
