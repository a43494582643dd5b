-- The modules of this folder.
pub mod Adjusted
pub mod AdjustedSeen
pub mod ChangeSets
pub mod Checking
pub mod Events
pub mod Falling
pub mod Kept
pub mod Later
pub mod Parts
pub mod Quiet
pub mod Seen
pub mod Times
pub mod Violations
pub mod Watching
pub mod Windows
pub mod Within
