-- The lemma files of this folder.
pub mod FittingLaws
