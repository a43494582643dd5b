-- The modules of this folder.
pub mod Lines
pub mod Large
pub mod Faults
pub mod Reading
pub mod Breaks
pub mod Steps
pub mod Taking
pub mod Sections
pub mod Refusing
