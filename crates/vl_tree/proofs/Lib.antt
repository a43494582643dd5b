-- The modules of this folder.
pub mod AllKinds
pub mod Building
pub mod ExpressionsExact
pub mod ItemsExact
pub mod PrimitivesExact
pub mod AmountsExact
pub mod ConditionsExact
pub mod PathsExact
pub mod ChecksExact
pub mod SpecifyExact
pub mod ModulesExact
pub mod Lists
mod Examples
mod SpecifyExamples
