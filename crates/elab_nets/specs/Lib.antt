-- The modules of this folder: words of the contracts.
pub mod Numbers
pub mod Own
pub mod Outside
pub mod TerminalBits
pub mod Terminals
pub mod Members
pub mod Ends
pub mod Copies
pub mod Inputs
pub mod Written
pub mod Rows
pub mod Parts
pub mod Turns
pub use Rattle.elab_modules.specs.SeenOfLates
pub use Rattle.elab_modules.specs.DelayedCopy
pub use Rattle.elab_modules.specs.PlacedCopy
pub use Rattle.elab_modules.specs.Copies as CopiesOfLates
pub use Rattle.elab_modules.specs.Ready as ReadyOfModules
pub use Rattle.elab_modules.specs.declared.library.Library
pub use Rattle.elab_modules.specs.Reached
pub use Rattle.elab_modules.specs.declared.prepared.Prepared
pub use Rattle.elab_modules.specs.declared.library.Ready
pub use Rattle.elab_modules.specs.Finding
pub use Rattle.elab_modules.specs.Telling
pub use Rattle.elab_modules.specs.Reaching
