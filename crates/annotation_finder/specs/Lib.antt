-- The modules of this folder.
pub mod Checks
pub mod Finding
pub mod Fitting
pub mod Sought
