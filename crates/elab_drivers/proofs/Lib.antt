-- The modules of this folder.
pub mod Members
mod Found
mod ByNumber
mod Told
mod Refused
