-- The modules of this folder.
pub mod Examples
pub mod PairLaws
pub mod PlaceLaws
pub mod TableLaws
