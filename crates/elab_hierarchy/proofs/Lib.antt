-- The modules of this folder.
pub mod Once
pub mod Found
pub mod Listed
pub mod Least
pub mod Apart
pub mod Used
pub mod Ended
pub mod Chosen
pub mod Gathered
pub mod Sizes
pub mod Faulty
pub mod Going
pub mod Done
pub mod Whole
pub mod FaultlessTree
