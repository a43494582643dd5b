-- The modules of this folder.
pub mod Terms
pub mod Values
pub mod Gates
pub mod Making
pub mod Text
