-- The modules of this folder.
pub mod WordsRead
pub mod Named
pub mod Worked
pub mod Answered
pub mod Promised
pub mod ProgramWords
