-- The lemma files of this folder.
pub mod ListLaws
pub mod NetLaws
pub mod WorkLaws
pub mod WorkIsExact
pub mod StampLaws
pub mod EvaluationLaws
pub mod RoundLaws
pub mod EveryLaws
pub mod PendingLaws
