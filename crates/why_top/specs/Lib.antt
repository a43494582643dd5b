-- The modules of this folder.
pub mod Runs
pub mod Answer
pub mod Promises
pub mod Program
pub mod Seen
