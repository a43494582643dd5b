-- The modules of this folder.
pub mod Cells
pub mod Walks
