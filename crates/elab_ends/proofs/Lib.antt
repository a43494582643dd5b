-- The modules of this folder.
pub mod RowBits
pub mod TermBits
mod Leading
mod Marking
pub mod InTurn
pub mod Spans
mod Examples
