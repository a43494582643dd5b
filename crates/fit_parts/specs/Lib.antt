-- The modules of this folder.
pub mod Parts
pub mod Trees
pub mod Below
pub mod Checked
