-- The modules of this folder: what it is that a netlist is read or refused; and how the code's values are seen.
pub mod Kinds
pub mod Reading
pub mod Seen
pub mod Phases
pub mod Written
