-- The modules of this folder.
pub mod Movable
pub mod Building
pub mod Joining
pub mod Values
pub mod Entries
pub mod Checks
pub mod Files
