-- The modules of this folder.
pub mod Pins
pub mod Lines
pub mod Told
pub mod Parting
pub mod Finding
