-- The modules of this folder: words of the contracts.
pub mod GivenRanges
