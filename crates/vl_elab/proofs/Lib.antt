-- The modules of this folder.
pub mod Among
pub mod Standing
pub mod Faultless
pub mod LongerTables
pub mod Whole
pub mod Below
pub mod OneByOne
pub mod Told
pub mod OwnLimits
pub mod GivenLates
pub mod Steps
