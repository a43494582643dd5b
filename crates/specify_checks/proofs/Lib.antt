-- The modules of this folder.
pub mod OneBit
pub mod Enabling
pub mod RegBits
pub mod LateCopies
pub mod CopyPlaces
pub mod Edges
pub mod Seconds
pub mod InOrder
pub mod NextCheck
pub mod Whole
pub mod Asked
