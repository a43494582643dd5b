-- The modules of this folder.
pub mod NameLaws
pub mod FlatLaws
pub mod InsideLaws
