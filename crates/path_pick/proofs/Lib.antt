-- The modules of this folder.
pub mod BestLaws
pub mod ConditionLaws
mod Examples
pub mod PassLaws
pub mod PulseLaws
pub mod LaterLaws
pub mod MarkLaws
