-- The modules of this folder.
pub mod Answered
pub mod IncludingLaws
pub mod Kept
pub mod MadeNames
pub mod MakingLaws
pub mod Meetings
pub mod Pairs
pub mod ProgramWords
pub mod Promised
pub mod Putting
pub mod ReadAgain
pub mod Reading
pub mod SdfLaws
pub mod Telling
pub mod ToldLaws
pub mod Worked
pub mod Asking
