-- The modules of this folder.
pub mod Status
pub mod Phases
pub mod Putting
pub mod Telling
pub mod Stops
pub mod AnnotatedSeen
pub mod Told
pub mod Given
