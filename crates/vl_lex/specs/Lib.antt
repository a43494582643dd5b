-- The modules of this folder: the definition of lexing, from pieces up to whole files; its laws; and a bridge between it and the code.
pub mod State
pub mod Directives
pub mod Effects
pub mod Lexes
pub mod Seen
pub mod StateBridge
pub mod Laws
