-- The lemmas of this crate.
pub mod BitLaws
