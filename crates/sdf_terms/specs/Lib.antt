-- The modules of this folder.
pub mod Tokens
pub mod Lists
pub mod Conditions
pub mod Balanced
