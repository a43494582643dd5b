-- The modules of this folder.
pub mod Ambiguities
pub mod Classes
pub mod Classing
pub mod Codes
pub mod Delayed
pub mod Depths
pub mod Keys
pub mod Reading
pub mod Refusing
pub mod Sizes
pub mod Weights
