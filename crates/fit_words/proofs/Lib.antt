-- The modules of this folder.
pub mod ArgumentLaws
pub mod FrontLaws
pub mod PathLaws
pub mod RuleLaws
pub mod SameLaws
