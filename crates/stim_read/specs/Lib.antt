-- The modules of this folder, in reading order.
pub mod Lines
pub mod Sets
pub mod Forms
pub mod Times
pub mod Inputs
pub mod ByName
pub mod Faults
pub mod Reading
pub mod Seen
pub mod Meant
