-- The lemmas of this folder.
pub mod WordLaws
pub mod PlaceLaws
pub mod KindLaws
pub mod RangeLaws
pub mod StepLaws
pub mod AllKinds
pub mod FormExact
pub mod HeaderLaws
pub mod Whole
mod Examples
