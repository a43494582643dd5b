-- The modules of this folder.
pub mod ArgumentLaws
pub mod CommandLaws
pub mod Examples
pub mod FrontLaws
pub mod Laws
pub mod NumberLaws
pub mod RuleLaws
pub mod SameLaws
