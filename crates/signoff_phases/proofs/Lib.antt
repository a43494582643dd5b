-- The modules of this folder.
pub mod Putting
pub mod TellingLaws
pub mod Composed
pub mod Entries
pub mod FilesRead
pub mod Outcomes
pub mod Examples
pub mod GivenWords
pub mod Named
