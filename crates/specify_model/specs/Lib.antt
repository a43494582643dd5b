-- The modules of this folder, in reading order.
pub mod Blocks
pub mod Values
pub mod PulseLimits
pub mod Conditions
pub mod Paths
pub mod Outputs
pub mod Faults
pub mod Checks
pub mod CheckFaults
