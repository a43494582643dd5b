-- The modules of this folder.
pub mod Exact
pub mod Fitted
pub mod Phases
pub mod Stages
