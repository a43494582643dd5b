-- The lemma files of this folder.
pub mod TimeLaws
pub mod CallLaws
pub mod TruthLaws
pub mod RunLaws
pub mod EndLaws
pub mod DueLaws
pub mod ToldLaws
pub mod NamingLaws
pub mod SimulationLaws
pub mod StepLaws
pub mod SimulatedLaws
