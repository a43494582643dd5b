-- The modules of this folder: from bytes up to what a file's tokens are; and a bridge between the definition and the code.
pub mod Tokens
pub mod Seen
pub mod Bytes
pub mod Words
pub mod Operators
pub mod Pieces
pub mod Lexes
pub mod Names
pub mod PieceBridge
pub mod NameBridge
