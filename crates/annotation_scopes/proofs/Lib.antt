-- The modules of this folder.
pub mod CellLaws
pub mod NameLaws
pub mod WalkLaws
