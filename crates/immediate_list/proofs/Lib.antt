-- The lemma files of this folder.
pub mod ListedLaws
pub mod TableLaws
pub mod ImmediateLaws
