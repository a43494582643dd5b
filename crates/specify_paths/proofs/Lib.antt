-- The modules of this folder.
pub mod AsTold
pub mod FirstFault
pub mod SuchPorts
pub mod Grouped
pub mod Bridged
pub mod Added
pub mod Between
pub mod Rows
pub mod Chosen
pub mod InOrder
pub mod ReadConditions
pub mod Sides
pub mod Changes
pub mod Stating
pub mod Whole
pub mod InTurns
