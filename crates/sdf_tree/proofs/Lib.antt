-- The modules of this folder.
pub mod AllKinds
pub mod Building
pub mod ValuesExact
pub mod ConditionsExact
pub mod EntriesExact
pub mod ChecksExact
pub mod FilesExact
pub mod KeywordLaws
pub mod NumberLaws
pub mod Examples
pub mod PathLaws
pub mod ConstantLaws
