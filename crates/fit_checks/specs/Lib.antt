-- The modules of this folder.
pub mod Conditioned
pub mod Halves
pub mod Written
pub mod WrittenSeen
pub mod Sides
pub mod Forms
