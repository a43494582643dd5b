-- The modules of this folder.
pub mod IndexLaws
pub mod LedBy
pub mod Meant
pub mod PlaceLaws
pub mod StepLaws
pub mod Turns
