-- The modules of this folder.
pub mod Passing
pub mod Wholes
pub mod Joined
pub mod Scanning
pub mod CellParts
pub mod Filing
