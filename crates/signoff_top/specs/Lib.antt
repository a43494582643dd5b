-- The modules of this folder.
pub mod Phases
pub mod Answer
pub mod Promises
pub mod Program
pub mod Tasks
pub mod Work
