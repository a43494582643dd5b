-- The modules of this folder.
pub mod Examples
pub mod Joining
pub mod WrittenKinds
pub mod ReadingLaws
pub mod OneFault
