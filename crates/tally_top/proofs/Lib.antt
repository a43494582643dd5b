-- The modules of this folder.
pub mod Answered
pub mod ProgramWords
pub mod Promised
pub mod Putting
pub mod Telling
