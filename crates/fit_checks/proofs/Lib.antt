-- The modules of this folder.
pub mod ConditionLaws
pub mod Examples
pub mod TokenLaws
pub mod FormLaws
