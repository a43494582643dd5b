-- The modules of this folder.
pub mod Tails
pub mod Groups
pub mod Cells
pub mod Files
pub mod Reading
pub mod Depth
pub mod Outcomes
pub mod Reads
pub mod Phases
