-- The modules of this folder.
pub mod ChangeLaws
pub mod LineLaws
pub mod RoundLaws
pub mod Examples
