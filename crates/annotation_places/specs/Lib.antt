-- The modules of this folder.
pub mod Indexes
pub mod Nets
pub mod Places
