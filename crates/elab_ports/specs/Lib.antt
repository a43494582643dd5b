-- The modules of this folder: words of the contracts.
pub mod Binding
pub mod Placing
pub mod Bound
pub mod Constants
