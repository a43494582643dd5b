-- The modules of this folder.
pub mod OneMore
pub mod InRow
pub mod NamedAt
pub mod Selects
pub mod LeafBits
pub mod LeafFaults
pub mod Parts
pub mod PartsLeft
