-- The modules of this folder.
pub mod AfterLaws
pub mod AnyLaws
pub mod CheckExamples
pub mod EntryLaws
pub mod FlopExamples
pub mod KeptLaws
pub mod KeptPlaces
pub mod LimitExamples
pub mod LimitLaws
pub mod ListedLaws
pub mod PassLaws
pub mod PathExamples
pub mod ProgressLaws
pub mod Samples
pub mod TableLaws
