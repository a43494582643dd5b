-- The modules of this folder.
pub mod HandLemmas
pub mod DriveLemmas
pub mod LoopLemmas
