-- The modules of this folder.
pub mod Link
pub mod Slots
pub mod Keys
pub mod Wheel
pub mod Links
pub mod Chains
pub mod Families
pub mod Kept
pub mod Least
pub mod Places
