-- The modules of this folder.
mod BestLaws
pub mod CauseLaws
pub mod ChainLaws
pub mod DelayLaws
mod Examples
pub mod FittingLaws
pub mod LatestLaws
pub mod Lists
pub mod PathLaws
pub mod StepLaws
pub mod TraceLaws
pub mod UnknownLaws
pub mod WithinLaws
