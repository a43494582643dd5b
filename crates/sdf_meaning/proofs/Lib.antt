-- The modules of this folder.
pub mod Decimals
pub mod Moving
pub mod MeantFiles
pub mod Sizes
pub mod FirstFaults
pub mod Examples
