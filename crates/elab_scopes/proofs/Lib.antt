-- The modules of this folder.
pub mod BitParts
pub mod Steps
pub mod PlacedAt
pub mod Standing
pub mod Leaves
pub mod ShownVariables
pub mod ShownScopes
pub mod PortPlaces
pub mod InputDrives
pub mod RegDrives
