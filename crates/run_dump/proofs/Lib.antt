-- The modules of this folder.
pub mod FileLaws
pub mod RunLaws
pub mod StopLaws
pub mod RestLaws
