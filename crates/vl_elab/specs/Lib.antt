-- The modules of this folder: words of the contracts.
pub mod Below
pub mod Made
