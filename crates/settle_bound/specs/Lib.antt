-- The modules of this folder.
pub mod Hops
pub mod Chains
pub mod Settling
pub mod Staying
pub mod Links
pub mod Linked
pub mod Orders
pub mod Rings
