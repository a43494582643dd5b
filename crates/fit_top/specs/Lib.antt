-- The modules of this folder.
pub mod Answer
pub mod Folders
pub mod Including
pub mod Making
pub mod Names
pub mod Program
pub mod Promises
pub mod Putting
pub mod Status
pub mod Stops
pub mod Texts
pub mod Work
