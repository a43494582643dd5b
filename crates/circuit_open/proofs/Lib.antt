-- The lemma files of this folder.
pub mod ChangeLaws
pub mod ClosedLaws
pub mod OpenLaws
pub mod AdjustLaws
