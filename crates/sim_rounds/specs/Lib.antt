-- The modules of this folder, and the machine of a circuit, which stands below.
pub use Rattle.sim_machine.specs.Simulated
pub use Rattle.sim_machine.specs.Notifiers
pub mod CircuitLaws
pub mod CircuitChecks
pub mod Moments
pub mod MomentsSeen
pub mod MomentLaws
pub mod Engines
pub mod MomentProps
pub mod Restored
pub mod Setting
pub mod Stopping
pub mod Pausing
pub mod Fitting
