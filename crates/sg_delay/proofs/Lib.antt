-- The modules of this folder.
pub mod Examples
pub mod Lengths
pub mod ListExamples
