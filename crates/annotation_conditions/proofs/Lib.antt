-- The modules of this folder.
pub mod BalanceLaws
pub mod EdgeLaws
pub mod SameLaws
pub mod TokenLaws
