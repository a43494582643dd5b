-- The modules of this folder.
pub mod HistoryLaws
pub mod OrderLaws
pub mod ViolationLaws
