-- The modules of this folder.
pub mod Rules
pub mod Changes
pub mod Lines
pub mod Rounds
pub mod Report
