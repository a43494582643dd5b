-- The modules of this folder.
pub mod Checks
pub mod ChecksSeen
pub mod Circuit
pub mod Signals
pub mod Closed
pub mod FanOut
pub mod Seen
pub mod Cuts
pub mod Pins
pub mod PathFitting
pub mod Paths
pub mod PathsSeen
pub mod Timings
pub mod TimingsSeen
pub use Rattle.sg_delay.specs.declared.corners.Corner
pub use Rattle.sg_delay.specs.declared.limits.PulseStyle
