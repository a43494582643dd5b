-- The modules of this folder.
pub mod Keywords
pub mod Words
pub mod Written
pub mod Kinds
pub mod Rules
pub mod Values
pub mod Conditions
pub mod Entries
pub mod Checks
pub mod Files
pub mod Seen
pub mod PathWords
pub mod Meant
pub mod Faults
