-- The modules of this folder: words of the contracts, and of private functions.
pub mod Ready
pub mod Shelving
pub mod OfModules
pub mod Uses
pub mod Standing
pub use Rattle.elab_paths.specs.Reached
pub use Rattle.elab_paths.specs.Library
pub use Rattle.elab_paths.specs.Rows
pub use Rattle.elab_paths.specs.RowsType
pub use Rattle.elab_paths.specs.Placing
pub use Rattle.elab_paths.specs.SeenOfElements
pub use Rattle.elab_paths.specs.StandingOfElements
pub use Rattle.elab_paths.specs.Shelving as ShelvingOfPaths
pub use Rattle.elab_paths.specs.AllPaths
pub use Rattle.elab_paths.specs.declared.modules.ModulePaths
pub use Rattle.elab_paths.specs.Ready as ReadyOfPaths
