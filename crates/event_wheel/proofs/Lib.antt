-- The modules of this folder.
pub mod CountLaws
pub mod LinkLaws
pub mod KeyLaws
pub mod ChainLaws
pub mod FamilyLaws
pub mod OrderLaws
pub mod IndexLaws
pub mod EffectLaws
pub mod TableLaws
pub mod WheelLaws
pub mod EmptyLaws
pub mod WriteLaws
pub mod PlaceLaws
pub mod AgendaLaws
pub mod SearchLaws
pub mod LeastLaws
