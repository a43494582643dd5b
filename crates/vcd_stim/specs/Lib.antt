-- The modules of this folder, in reading order.
pub mod Meant
pub mod Paths
pub mod Index
pub mod Steps
pub mod Whole
pub mod Back
