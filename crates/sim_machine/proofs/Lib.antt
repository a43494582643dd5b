-- The lemma files of this folder.
pub mod DelayLaws
pub mod AtOnceLaws
pub mod CellLaws
pub mod ElementLaws
pub mod PlacingLaws
