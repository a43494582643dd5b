-- The modules of this folder.
pub mod Views
pub mod LoopLaws
pub mod Pieces
pub mod StepLaws
pub mod MakingLaws
pub mod Examples
pub mod NameLaws
