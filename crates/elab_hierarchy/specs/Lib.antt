-- The modules of this folder: words of the contracts.
pub mod Codes
pub mod Named
pub mod Tops
pub mod Placing
pub mod Children
pub mod Growing
