-- The modules of this folder.
mod Lasts
mod Splits
mod Alike
pub mod RestLaws
