-- The modules of this folder: what tokens are, and how the code's tokens are seen.
pub mod Symbols
pub mod Tokens
pub mod Constants
pub mod Seen
