-- The modules of this folder: words of the contracts.
pub mod Declarations
pub mod Delays
pub mod Refusals
