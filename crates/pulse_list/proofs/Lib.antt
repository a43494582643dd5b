-- The modules of this folder.
pub mod PairsLaws
pub mod LatestLaws
pub mod OrderLaws
pub mod TableLaws
pub mod EarliestLaws
pub mod Examples
pub mod LeastLaws
