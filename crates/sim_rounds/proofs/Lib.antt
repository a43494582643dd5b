-- The lemma files of this folder.
pub mod MachineLaws
pub mod NotifierLaws
pub mod ToggleLaws
pub mod CircuitChecksLaws
pub mod SeenLaws
pub mod TouchedLaws
mod Examples
pub mod RestoredLaws
pub mod EngineLaws
pub mod SimLaws
pub mod ResumedLaws
pub mod PendingTimes
pub mod PendingInvariants
pub mod StampInvariants
pub mod SoonLaws
pub mod StateInvariants
pub mod RunInvariants
pub mod EventTimes
pub mod MomentForms
pub mod MomentsFit
pub mod PausingLaws
pub mod StoppingLaws
pub mod PendingLaws
pub mod VerdictLaws
pub mod FittingLaws
pub mod SettlingLaws
mod MomentExamples
