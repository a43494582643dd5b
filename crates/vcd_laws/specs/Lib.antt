-- The modules of this folder, in reading order.
pub mod Alike
pub mod Again
pub mod ReadBack
pub use Rattle.netlist_read.specs.Reading
