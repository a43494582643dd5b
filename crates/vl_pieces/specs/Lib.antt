-- The modules of this folder: the pieces of a text, from bytes up to what each is as a token; and bridges between the definition
-- and the code.
pub mod Bytes
pub mod Ends
pub mod Sized
pub mod Pieces
pub mod Modes
pub mod Meanings
pub mod NumberBridge
pub mod PieceBridge
