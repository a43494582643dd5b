-- The lemmas of the crate: words, pieces, and whole texts.
pub mod RunLaws
pub mod WordLaws
pub mod EndLaws
pub mod FirstPieces
pub mod ToldPieces
pub mod CutLaws
pub mod OneReading
pub mod NumberLaws
pub mod NameLaws
pub mod PushLaws
pub mod Examples
