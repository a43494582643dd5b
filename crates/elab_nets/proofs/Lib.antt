-- The modules of this folder.
pub mod Counts
pub mod NumberedLists
pub mod InnerNets
pub mod LateNets
pub mod PathTurns
pub mod EndRows
pub mod RowBits
pub mod OwnBits
pub mod ConstantNets
pub mod HandedNets
pub mod GivenRows
pub mod MemberBits
pub mod Placings
pub mod RowParts
pub mod Children
pub mod ChildRows
pub mod Defined
pub mod MemberNets
pub mod InnerRows
pub mod OuterRows
pub mod MemberTurns
pub mod UpTo
pub mod PlainMembers
pub mod AllRows
pub mod Mine
pub mod WrittenNumbers
pub mod Filters
pub mod PortConstants
pub mod BitPlaces
pub mod OutsideNets
pub mod OuterNumbers
pub mod InputPlaces
pub mod Texts
pub mod LentRows
pub mod MadePlaces
pub mod OutsideClauses
pub use Rattle.elab_modules.proofs.FoundModules
pub use Rattle.elab_modules.proofs.Among as AmongOfModules
pub use Rattle.elab_modules.proofs.Faulty as FaultyOfModules
pub use Rattle.elab_modules.proofs.Meeting
pub use Rattle.elab_modules.proofs.Named as NamedOfModules
pub use Rattle.elab_modules.proofs.Stocking
pub use Rattle.elab_modules.proofs.Replaced
pub use Rattle.elab_modules.proofs.InTurn
