-- The modules of this folder.
pub mod NumberLaws
pub mod GroupLaws
pub mod PairLaws
pub mod ScopeLaws
pub mod RangeLaws
pub mod WindowLaws
pub mod AlikeLaws
pub mod CountLaws
pub mod FoundLaws
pub mod OneLaws
pub mod AdjustmentLaws
