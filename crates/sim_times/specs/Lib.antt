-- The modules of this folder.
pub mod Times
pub mod Watching
pub mod Runs
pub mod Told
pub mod Naming
pub mod Checks
pub mod Simulations
pub mod Steps
pub mod Skipping
