-- The modules of this folder.
pub mod Choice
pub mod Within
pub mod Pass
pub mod Marks
