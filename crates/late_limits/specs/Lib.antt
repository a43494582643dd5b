-- The modules of this folder, in reading order: the first two are what is meant, the others words of contracts.
pub mod Pairs
pub mod Adjusted
pub mod Laws
pub mod Adjustments
pub mod Numbering
pub mod Found
pub mod Grouping
