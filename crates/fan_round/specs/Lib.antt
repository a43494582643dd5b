-- The modules of this folder.
pub mod Lists
pub mod Nets
pub mod Work
pub mod Rounds
pub mod States
