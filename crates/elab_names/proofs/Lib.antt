-- The modules of this folder.
pub mod DeclarationFaults
pub mod InstanceNames
pub mod ItemRanges
pub mod KnownRanges
pub mod OwnNets
pub mod WideRanges
