-- The modules of this folder: words of the contracts.
pub mod Ready
pub mod Reached
pub mod Telling
pub mod Connecting
pub mod Reaching
pub mod Checking
pub mod Finding
pub use Rattle.elab_lates.specs.declared.copies.DelayedCopy
pub use Rattle.elab_lates.specs.Seen as SeenOfLates
pub use Rattle.elab_lates.specs.declared.copies.PlacedCopy
pub use Rattle.elab_lates.specs.Copies
