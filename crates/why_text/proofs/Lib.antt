-- The modules of this folder.
pub mod FirstLaws
pub mod PinLaws
pub mod LineLaws
pub mod ToggleLaws
pub mod ViolationLaws
