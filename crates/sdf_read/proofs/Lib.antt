-- The modules of this folder.
pub mod PathTails
pub mod PartsExact
pub mod FileLists
pub mod Failed
pub mod Depths
pub mod OneOutcome
pub mod JoinedPhases
pub mod Reached
