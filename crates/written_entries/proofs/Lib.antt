-- The modules of this folder.
pub mod GroupLaws
pub mod NumberLaws
