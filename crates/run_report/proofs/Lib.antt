-- The modules of this folder.
pub mod PathLaws
pub mod ReachedLines
pub mod ReportLaws
pub mod Examples
