-- The modules of this folder: words of the contracts.
pub mod Operands
pub mod Ready
pub mod AllPaths
pub mod Filling
pub mod Shelving
pub mod OfModules
pub mod Uses
pub mod Standing
pub use Rattle.elab_elements.specs.ReadyOfModules
pub use Rattle.elab_elements.specs.Reached
pub use Rattle.elab_elements.specs.Telling
pub use Rattle.elab_elements.specs.Library
pub use Rattle.elab_elements.specs.Ready as ReadyType
pub use Rattle.elab_elements.specs.Prepared
pub use Rattle.elab_elements.specs.Rows
pub use Rattle.elab_elements.specs.RowsType
pub use Rattle.elab_elements.specs.Adding
pub use Rattle.elab_elements.specs.declared.placing.Placing
pub use Rattle.elab_elements.specs.Seen as SeenOfElements
pub use Rattle.elab_elements.specs.Standing as StandingOfElements
