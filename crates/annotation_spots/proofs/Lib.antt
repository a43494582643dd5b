-- The lemma files of this folder.
pub mod CountLaws
mod Numbered
pub mod RowLaws
