-- The modules of this folder.
mod CandidateSteps
mod CheckLaws
mod FindingLaws
mod LegLaws
mod MarkLaws
mod PortLaws
mod SearchLaws
mod SpotLaws
