-- The modules of this folder.
pub mod Waveform
pub mod Candidates
pub mod Causes
pub mod Best
pub mod Chains
pub mod Fitting
pub mod Links
pub mod Steps
pub mod Traces
pub mod Unknowns
