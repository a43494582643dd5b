-- The modules of this folder.
mod BackLaws
pub use Rattle.written_names.proofs.ScopeLaws
