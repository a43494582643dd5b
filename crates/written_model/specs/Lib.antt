-- The modules of this folder, in reading order.
pub mod Names
pub mod Entries
pub mod Tree
pub mod Text
pub mod Faults
