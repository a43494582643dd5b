-- The modules of this folder.
pub mod TerminalLaws
mod Examples
