-- The modules of this folder.
pub mod Lists
pub mod DelayLists
pub mod Refusals
mod Examples
