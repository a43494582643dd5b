-- The modules of this folder.
pub mod CutLaws
pub mod HeadingLaws
pub mod SeenLaws
pub mod WholeLaws
pub mod BelowLaws
pub mod Examples
