-- The modules of this folder.
pub mod BitPlaces
pub mod ItemNames
pub mod MadeTable
pub mod NoneTooWide
pub mod Placing
pub mod SaidVariables
pub mod TableSeen
pub mod Telling
pub mod UsedNames
pub mod WithNames
pub use Rattle.elab_declared.proofs.Refusals
pub use Rattle.elab_laws.proofs.Lists
pub use Rattle.elab_laws.proofs.Places
