-- The modules of this folder: words of the contracts.
pub mod Seen
pub mod Adding
pub mod Puts
pub mod Terminals
pub mod Words
pub mod Next
pub mod Standing
pub use Rattle.elab_nets.specs.ReadyOfModules
pub use Rattle.elab_nets.specs.Reached
pub use Rattle.elab_nets.specs.Telling
pub use Rattle.elab_nets.specs.Library
pub use Rattle.elab_nets.specs.Ready
pub use Rattle.elab_nets.specs.Prepared
pub use Rattle.elab_nets.specs.Reaching
pub use Rattle.elab_nets.specs.Numbers
pub use Rattle.elab_nets.specs.Rows
pub use Rattle.elab_nets.specs.declared.rows.Rows as RowsType
