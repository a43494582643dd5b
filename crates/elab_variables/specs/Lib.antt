-- The modules of this folder: what the code's lists stand for.
pub mod Naming
pub mod Rows
pub mod Seen
pub mod Tables
pub use Rattle.elab_laws.specs.Handing
