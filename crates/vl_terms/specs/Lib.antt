-- The modules of this folder.
pub mod Bits
pub mod Bytes
pub mod Lists
pub mod Words
