-- The modules of this folder.
pub mod MeantSeen
pub mod FirstFaults
pub mod Sizes
pub mod FileSteps
