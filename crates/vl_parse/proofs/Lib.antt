-- The modules of this folder.
pub mod Failed
pub mod OpenBlock
pub mod OneKind
