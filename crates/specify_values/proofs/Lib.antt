-- The modules of this folder.
pub mod Ports
pub mod Cutting
pub mod Named
pub mod Gathered
pub mod InTurn
pub mod ByName
pub mod Latest
pub mod PulseFaults
