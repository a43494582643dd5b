-- The modules of this folder.
pub mod ConsLaws
pub mod Exits
pub mod PushLaws
pub mod WordLaws
pub mod LineLaws
pub mod StepLaws
pub mod MomentLaws
pub mod BodyLaws
pub mod SameLaws
pub mod CutLaws
pub mod NumberLaws
pub mod TakeLaws
pub mod RoomLaws
pub mod SectionLaws
pub mod OnceLaws
pub mod ReadLaws
mod Examples
