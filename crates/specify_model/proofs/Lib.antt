-- The modules of this folder.
mod Examples
mod FaultExamples
mod CheckExamples
pub mod Writing
